-- `book_check::placed::mark_place` meets its contract. Assumes nothing.
use borrow.Author.Rules.{rules}
use Prim.Native.Nat.{ℕ, ◌+◌, ◌≤◌, ◌<◌}
use mathlib.Core.Path.{◌≡◌, sym}
use mathlib.Core.Bool.{true, false, false≢true}
use mathlib.Core.List.{List}
use native.Mathlib.Omega.{arith}
use lib.ListN.{get_or, set}
use Rattle.book.specs.Layout.{slots, slot_at, place_of}
use Rattle.book.specs.Book.{well_placed}
use Rattle.book_check.specs.Marked.{Marked}
use Rattle.book_check.proofs.Kept.{placed-above}
use Rattle.book_check.proofs.Marks.{placed-free, placed-twice, placed_first, marked-free, marked-new}
use Rattle.book_check.proofs.placed.mark_place.Statement.{statement}
use Rattle.book_check.proofs.placed.mark_place.Tie as tie

module _ (slot : ℕ → List ℕ) (count : ℕ) {s place : ℕ} {marks : List ℕ} (is : place ≡ place_of (slot s)) (m : Marked slot s marks) where
  free-slot : place ≡ 0 → (true ≡ well_placed slot count s) × (true ≡ true → Marked slot (s + 1) marks)
  free-slot none = (sym (placed-free slot s count (rw is at none)), λ z. marked-free slot m (rw is at none))

  above-count : count < place → (false ≡ well_placed slot count s) × (false ≡ true → Marked slot (s + 1) marks)
  above-count over = (sym (placed-above slot s count (rw is at over)), λ z. absurd (false≢true z))

  -- the place is one of those up to the count
  module _ (low : s < slots) (few : count ≤ slots) (some : 1 ≤ place) (within : place ≤ count) where
    marked-twice : (get_or marks place 0 ≡ 0 → ⊥) → (false ≡ well_placed slot count s) × (false ≡ true → Marked slot (s + 1) marks)
    marked-twice mark = (
      sym (placed-twice slot m low count few (rw is at some) (rw is at within) (rw is at mark)),
      λ z. absurd (false≢true z),
    )

    marked-first : get_or marks place 0 ≡ 0 → (true ≡ well_placed slot count s) × (true ≡ true → Marked slot (s + 1) (set marks place 1))
    marked-first mark = (
      sym (placed_first slot m low count few (rw is at some) (rw is at within) (rw is at mark)),
      λ z. rw is (marked-new slot m (rw is at some) (omega (arith, is))),
    )

-- no goal is called by its test, so that another test is refused for what it means
pub mark_place_spec : {M : Type 1} → statement M
mark_place_spec =
    tie.close
    (tie.spec (search rules)
    (λ c. free-slot (slot_at c.args.book.now) c.args.count c.place_in-place.ensures.0 c.requires.3 (omega arith))
    (λ c. above-count (slot_at c.args.book.now) c.args.count c.place_in-place.ensures.0 c.requires.3 (omega arith))
    (λ c. omega (arith, c.requires.3.size))
    (λ c.
    marked-twice (slot_at c.args.book.now) c.args.count c.place_in-place.ensures.0 c.requires.3 (omega arith) (omega arith)
    (omega arith) (omega arith) (λ z. omega arith))
    (λ c. omega (arith, c.requires.3.size)) (search rules)
    (λ c.
    marked-first (slot_at c.args.book.now) c.args.count c.place_in-place.ensures.0 c.requires.3 (omega arith) (omega arith)
    (omega arith) (omega arith) (omega arith)))
