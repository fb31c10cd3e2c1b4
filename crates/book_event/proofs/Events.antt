-- Which event a view names, by the tests in the code's order, and that its records are there.
-- Assumes nothing.
use Prim.Native.Nat.{ℕ, zero, suc, ◌+◌, ◌-◌, ◌≤◌, ◌<◌}
use mathlib.Core.Path.{◌≡◌, refl, sym, ap, ◌∙◌}
use mathlib.Core.Bool.{Bool, true, false, cond, ◌&&◌}
use mathlib.Core.List.{List, []}
use mathlib.Core.Option.{Option, none, some}
use native.Mathlib.Omega.{arith}
use borrow.Author.Tests.{eq-eqb, ne_eqb, lt-ltb, le-ltb, ltb-true, leb-true, leb-false}
use lib.Dec.{eqb, leb, ltb}
use lib.ListN.{length}
use Rattle.field.proofs.Tests.{and_left}
use Rattle.file_record.specs.Parts.{record_at}
use Rattle.file_record.specs.Names.Point
use Rattle.file_record.proofs.Records.{part_length, record-length}
use Rattle.file_compare.specs.Order.{same}
use Rattle.file.specs.Formats.{needed}
use Rattle.refusal.specs.declared.Reason.TheVariants.{NoSuchNumber, Later}
use Rattle.refusal.specs.declared.LaterReason.TheVariants.{NotABook}
use Rattle.refusal.specs.Outcome.{said}
use Rattle.refusal.proofs.Answers.{refused-value}
use Rattle.changes_views.specs.Views.{last_of, wanted_at, wanted_count}
use Rattle.changes_views.proofs.Laws.{wanted-at-wanted, wanted-at-zero, wanted-at-none}
use Rattle.book.specs.Layout.{zeros}
use Rattle.book.specs.Book.{identity, is_book, book_judged}
use Rattle.book.specs.Event.{Event, insert, remove, replace, present_at, record_of, letter_at, next_view, paired, event_at, event_done, event_from}
use Rattle.book_check.specs.Identity.{identity_length}
use Rattle.book_check.proofs.Kept.{judged-other}
use Rattle.book_change.specs.Slotted.{present}
use Rattle.std.specs.Prelude.{Ok}
use Rattle.refusal.specs.Answer.{refusal}

-- the place of a view is one of those between header and trailer
pub wanted-place : (points : List ℕ) (view : ℕ) → 1 ≤ wanted_at [] points view → wanted_at [] points view < last_of points
wanted-place points zero h = absurd (omega (arith, wanted-at-zero [] points))
wanted-place points (suc k) h = by-test (leb (suc k) (wanted_count [] points)) refl
  where
    by-test : (t : Bool) → leb (suc k) (wanted_count [] points) ≡ t → wanted_at [] points (suc k) < last_of points
    by-test true e =
        (wanted-at-wanted [] points (suc k) (omega arith) (leb-true (suc k) (wanted_count [] points) e)).1
    by-test false e =
        absurd (omega (arith, wanted-at-none [] points (suc k) (leb-false (suc k) (wanted_count [] points) e)))

module _ (points : List ℕ) (place : ℕ) (h : place < last_of points) where
  pub view-there : length (record_of points place) ≡ Point.width
  view-there = record-length Point.width points place (omega arith)

  pub next-there : length (record_at Point.width points (place + 1)) ≡ Point.width
  next-there = record-length Point.width points (place + 1) (omega arith)

  pub identity-there : length (identity (record_of points place)) ≡ identity_length
  identity-there =
      part_length (record_of points place) Point.postcode_type Point.letter (omega arith) (omega (arith, view-there))

module _ (points : List ℕ) (place : ℕ) where
  pub present-alone : needed (record_of points place) ≡ 0
      → present_at points place ≡ present (record_of points place) (zeros Point.width)
  unfolding present_at
  present-alone e =
      ap
      (λ (t : Bool).
      present (record_of points place) (cond t (zeros Point.width) (record_at Point.width points (place + 1))))
      (eq-eqb (needed (record_of points place)) 0 e)

  pub present-followed : (needed (record_of points place) ≡ 0 → ⊥)
      → present_at points place ≡ present (record_of points place) (record_at Point.width points (place + 1))
  unfolding present_at
  present-followed n =
      ap
      (λ (t : Bool).
      present (record_of points place) (cond t (zeros Point.width) (record_at Point.width points (place + 1))))
      (ne_eqb (needed (record_of points place)) 0 n)

  pub paired_none : last_of points ≤ next_view points place → paired points place ≡ false
  unfolding paired
  paired_none h = simp (le-ltb (next_view points place) (last_of points) h)

  pub paired-some : next_view points place < last_of points
      → paired points place
      ≡ eqb (letter_at points (next_view points place)) 67
      && same (identity (record_of points (next_view points place))) (identity (record_of points place))
  unfolding paired
  paired-some h = simp (lt-ltb (next_view points place) (last_of points) h)

  pub paired-below : paired points place ≡ true → next_view points place < last_of points
  unfolding paired
  paired-below e =
      ltb-true (next_view points place) (last_of points) (and_left (ltb (next_view points place) (last_of points)) _ e)

  abbrev letter : ℕ
  letter = letter_at points place

  abbrev replaced : Option Event
  replaced = cond (paired points place) (some (replace (present_at points (next_view points place)))) none

  pub event-inserted : letter ≡ 73 → event_at points place ≡ some (insert (present_at points place))
  unfolding event_at
  event-inserted e = simp (eq-eqb letter 73 e)

  module _ (not-i : letter ≡ 73 → ⊥) where
    pub event-removed : letter ≡ 68 → event_at points place ≡ some (remove (identity (record_of points place)))
    unfolding event_at
    event-removed e = simp (ne_eqb letter 73 not-i, eq-eqb letter 68 e)

    module _ (not-d : letter ≡ 68 → ⊥) where
      pub event-replaced : letter ≡ 66 → event_at points place ≡ replaced
      unfolding event_at
      event-replaced e = simp (ne_eqb letter 73 not-i, ne_eqb letter 68 not-d, eq-eqb letter 66 e)

      pub event-none : (letter ≡ 66 → ⊥) → event_at points place ≡ none
      unfolding event_at
      event-none n = simp (ne_eqb letter 73 not-i, ne_eqb letter 68 not-d, ne_eqb letter 66 n)

module _ (book points : List ℕ) (place : ℕ) where
  pub from-none : place ≡ 0 → event_from book points place ≡ said (refusal 0 NoSuchNumber) book
  from-none e = rw (eq-eqb place 0 e)

  pub from_some : (place ≡ 0 → ⊥) → event_from book points place ≡ event_done book (event_at points place)
  from_some n = rw (ne_eqb place 0 n)

-- what is judged by a value is a book
pub judged-is : (book : List ℕ) {n : ℕ} → book_judged book ≡ Ok n → is_book book ≡ true
judged-is book {n} v = by-test (is_book book) refl
  where
    by-test : (t : Bool) → is_book book ≡ t → is_book book ≡ true
    by-test true e = e
    by-test false e = absurd (refused-value 0 n (Later NotABook) (sym (judged-other book e) ∙ v))
