-- `book_check::is_book` meets its contract. Assumes nothing.
use borrow.Author.Rules.{rules}
use Prim.Native.Nat.{ℕ, ◌≤◌}
use mathlib.Core.Path.{◌≡◌, sym, ◌∙◌}
use mathlib.Core.Bool.{Bool, true, false, ◌&&◌}
use mathlib.Core.List.{List}
use native.Mathlib.Omega.{arith}
use lib.ListN.{length}
use Rattle.book.specs.Layout.{slots, book_length, slot_at, count_of}
use Rattle.book.specs.Search.{all_from}
use Rattle.book.specs.Book.{well_placed, is_held, slot_fine, is_book}
use Rattle.book_check.proofs.Kept.{other_length, many, misplaced, by-fine}
use Rattle.book_check.proofs.is_book.Statement.{statement}
use Rattle.book_check.proofs.is_book.Tie as tie

-- the places were asked
module _ (book : List ℕ) {count : ℕ} {placed : Bool} (long : length book ≡ book_length) (is : count ≡ count_of book) (few : count ≤ slots)
    (asked : placed ≡ all_from (well_placed (slot_at book) count) slots 0 && all_from (is_held (slot_at book)) count 1)
  where
    ill-placed : placed ≡ false → false ≡ is_book book
    ill-placed e = sym (misplaced book long (rw is at few) (sym (rw is at asked) ∙ e))

    well-placed : {fine : Bool} → placed ≡ true → fine ≡ all_from (slot_fine (slot_at book)) slots 0 → fine ≡ is_book book
    well-placed e f = f ∙ sym (by-fine book long (rw is at few) (sym (rw is at asked) ∙ e))

-- no goal is called by its test, so that another test is refused for what it means
pub is_book_spec : {M : Type 1} → statement M
is_book_spec =
    tie.close
    (tie.spec (λ c. sym (other_length c.args.book.now (λ z. omega arith))) (search rules)
    (λ c. sym (many c.args.book.now (omega arith) (omega (arith, c.count_of-count.ensures.0)))) (search rules)
    (λ c.
    ill-placed c.args.book.now (omega arith) c.count_of-count.ensures.0 (omega arith) c.all_placed.ensures (search rules))
    (search rules)
    (λ c.
    well-placed c.args.book.now (omega arith) c.count_of-count.ensures.0 (omega arith) c.all_placed.ensures (search rules)
    c.all_fine.ensures))
