-- When a slot is fine and when bytes are a book, by the tests in the code's order.
-- Assumes nothing.
use Prim.Native.Nat.{ℕ, ◌≤◌, ◌<◌}
use mathlib.Core.Path.{◌≡◌, refl, ap, ◌∙◌}
use mathlib.Core.Bool.{Bool, true, false, not, ◌&&◌, ◌||◌}
use mathlib.Core.List.{List}
use borrow.Author.Tests.{eq-eqb, ne_eqb, le-leb, lt-leb, eqb-true}
use lib.Dec.{eqb}
use lib.ListN.{length}
use Rattle.field.specs.Test.{only}
use Rattle.field.proofs.Tests.{and_left}
use Rattle.file_fault.specs.Point.{point_fault}
use Rattle.file.specs.Formats.{needed, follows}
use Rattle.changes_views.specs.Views.{is_view, is_live}
use Rattle.refusal.specs.declared.Reason.TheVariants.{Later}
use Rattle.refusal.specs.declared.LaterReason.TheVariants.{NotABook}
use Rattle.book.specs.Layout.{slots, book_length, slot_at, count_of, place_of, view_of, follower_of}
use Rattle.book.specs.Search.{all_from}
use Rattle.book.specs.Book.{
  identity,
  followed,
  well_kept,
  keeper,
  holder,
  well_placed,
  is_held,
  slot_fine,
  slots_good,
  is_book,
  book_judged,
}
use Rattle.std.specs.Prelude.{Ok}
use Rattle.refusal.specs.Answer.{refusal}

module _ (rec next : List ℕ) where
  pub followed-none : needed rec ≡ 0 → followed rec next ≡ only 0 next
  unfolding followed
  followed-none e = simp (eq-eqb (needed rec) 0 e)

  pub followed-some : (needed rec ≡ 0 → ⊥) → followed rec next ≡ eqb (point_fault next) 0 && follows rec next
  unfolding followed
  followed-some n = simp (ne_eqb (needed rec) 0 n)

  pub kept-faulty : eqb (point_fault rec) 0 ≡ false → well_kept rec next ≡ false
  unfolding well_kept
  kept-faulty e = simp e

  pub kept-sound : eqb (point_fault rec) 0 ≡ true → well_kept rec next ≡ is_view rec && (is_live rec && followed rec next)
  unfolding well_kept
  kept-sound e = simp e

module _ (slot : ℕ → List ℕ) (s : ℕ) where
  pub fine-free : place_of (slot s) ≡ 0 → slot_fine slot s ≡ only 0 (slot s)
  unfolding slot_fine
  fine-free e = simp (eq-eqb (place_of (slot s)) 0 e)

  pub fine-ill : (place_of (slot s) ≡ 0 → ⊥) → well_kept (view_of (slot s)) (follower_of (slot s)) ≡ false
      → slot_fine slot s ≡ false
  unfolding slot_fine
  fine-ill n e = simp (ne_eqb (place_of (slot s)) 0 n, e)

  pub fine-well : (place_of (slot s) ≡ 0 → ⊥) → well_kept (view_of (slot s)) (follower_of (slot s)) ≡ true
      → slot_fine slot s ≡ eqb (keeper slot (identity (view_of (slot s)))) s
  unfolding slot_fine
  fine-well n e = simp (ne_eqb (place_of (slot s)) 0 n, e)

  turned-twice : (t : Bool) → not (not t) ≡ t
  turned-twice true = refl
  turned-twice false = refl

  pub placed-within : (count : ℕ) → place_of (slot s) ≤ count
      → well_placed slot count s ≡ eqb (holder slot (place_of (slot s))) s || eqb (place_of (slot s)) 0
  placed-within count h = simp (le-leb (place_of (slot s)) count h, turned-twice)

  pub placed-above : (count : ℕ) → count < place_of (slot s) → well_placed slot count s ≡ false
  placed-above count h = simp (lt-leb (place_of (slot s)) count h)

module _ (book : List ℕ) where
  abbrev placed_all : Bool
  placed_all = all_from (well_placed (slot_at book) (count_of book)) slots 0

  abbrev held_all : Bool
  held_all = all_from (is_held (slot_at book)) (count_of book) 1

  abbrev fine_all : Bool
  fine_all = all_from (slot_fine (slot_at book)) slots 0

  pub other_length : (length book ≡ book_length → ⊥) → is_book book ≡ false
  unfolding is_book
  other_length n = simp (ne_eqb (length book) book_length n)

  module _ (long : length book ≡ book_length) where
    pub many : slots < count_of book → is_book book ≡ false
    unfolding is_book
    many h = simp (eq-eqb (length book) book_length long, lt-leb (count_of book) slots h)

    module _ (few : count_of book ≤ slots) where
      by_slots : is_book book ≡ (placed_all && held_all) && fine_all
      unfolding is_book slots_good
      by_slots =
          simp (eq-eqb (length book) book_length long, le-leb (count_of book) slots few) (both placed_all held_all fine_all)
        where
          both : (a b c : Bool) → a && (b && c) ≡ (a && b) && c
          both true b c = refl
          both false b c = refl

      pub misplaced : placed_all && held_all ≡ false → is_book book ≡ false
      misplaced e = by_slots ∙ ap (λ (t : Bool). t && fine_all) e

      pub by-fine : placed_all && held_all ≡ true → is_book book ≡ fine_all
      by-fine e = by_slots ∙ ap (λ (t : Bool). t && fine_all) e

  -- a book is as long as one
  pub book-long : is_book book ≡ true → length book ≡ book_length
  unfolding is_book
  book-long e = eqb-true (length book) book_length (and_left (eqb (length book) book_length) _ e)

  pub judged-book : is_book book ≡ true → book_judged book ≡ Ok (count_of book)
  unfolding book_judged
  judged-book e = simp e

  pub judged-other : is_book book ≡ false → book_judged book ≡ refusal 0 (Later NotABook)
  unfolding book_judged
  judged-other e = simp e
