-- The event that a view of an accepted point file names brings what a book may keep, so that the call is its step.
-- Assumes nothing.
use Prim.Native.Nat.{ℕ, zero, suc, ◌+◌, ◌-◌, ◌≤◌, ◌<◌}
use mathlib.Core.Path.{◌≡◌, refl, sym, subst, ◌∙◌}
use mathlib.Core.Bool.{Bool, true, false, cond, true≢false, ◌&&◌}
use mathlib.Core.List.{List, []}
use mathlib.Core.Option.{Option, none, some}
use native.Mathlib.Omega.{arith}
use borrow.Author.Tests.{eqb-false, eq-eqb, ne_eqb, ltb-true, leb-true, leb-false}
use lib.Dec.{leb, ltb, eqb}
use lib.ListN.{length}
use Rattle.field.specs.Test.{only}
use Rattle.field.proofs.Tests.{and_left, and_right, or-true}
use Rattle.file_record.specs.Parts.{record_at}
use Rattle.file_record.specs.Names.Point
use Rattle.file_record.proofs.Records.{record-length}
use Rattle.file_fault.specs.Point.{point_fault}
use Rattle.file.specs.Check.{checked}
use Rattle.file.specs.Formats.{needed, follows, placed, point_format}
use Rattle.file.specs.Accepted.{Accepted}
use Rattle.file.proofs.Accepted.{accepted}
use Rattle.changes_views.specs.Views.{is_view, is_live, wanted, last_of, wanted_count, wanted_at, next_wanted}
use Rattle.changes_views.proofs.Laws.{
  wanted-other,
  next-step,
  next-range,
  next-next,
  wanted-at-wanted,
  wanted-at-zero,
  wanted-at-none,
}
use Rattle.refusal.specs.declared.Reason.TheVariants.{NoSuchNumber}
use Rattle.refusal.specs.Outcome.{said}
use Rattle.book.specs.Layout.{zeros}
use Rattle.book.specs.Book.{identity, followed, well_kept, is_book, book_judged}
use Rattle.book.specs.Event.{
  Event,
  insert,
  remove,
  replace,
  present_at,
  record_of,
  letter_at,
  next_view,
  paired,
  event_at,
  event_done,
  event_from,
  event_outcome,
}
use Rattle.book.specs.Agrees.{Keepable, EventFine, NamedAgrees}
use Rattle.book.proofs.Laid.{zeros-long, zeros-only}
use Rattle.book.proofs.Good.{and_yes}
use Rattle.book.proofs.Steps.{event-means}
use Rattle.std.specs.Prelude.{Ok}
use Rattle.refusal.specs.Answer.{refusal}

-- a view that is wanted is one; the next that is wanted is
wanted-view : (code rec : List ℕ) → wanted code rec ≡ true → is_view rec ≡ true
wanted-view code rec e = by-test (is_view rec) refl
  where
    by-test : (t : Bool) → is_view rec ≡ t → t ≡ true
    by-test true z = refl
    by-test false z = absurd (true≢false (sym e ∙ wanted-other code rec z))

next-wanted : (code file : List ℕ) (i : ℕ) → next_wanted code file i < last_of file
    → wanted code (record_at Point.width file (next_wanted code file i)) ≡ true
next-wanted code file i h = by-test (wanted code (record_at Point.width file (next_wanted code file i))) refl
  where
    by-test : (t : Bool) → wanted code (record_at Point.width file (next_wanted code file i)) ≡ t → t ≡ true
    by-test true z = refl
    by-test false z =
        let j = next_wanted code file i in
        absurd (omega (arith, next-step code file j h z, next-next code file i, (next-range code file (j + 1)).0))

-- a view that needs a follower has one: `placed` says that it follows
needed-follows : (before rec next : List ℕ) → is_view rec ≡ true → placed before rec next ≡ true → (needed rec ≡ 0 → ⊥)
    → follows rec next ≡ true
unfolding placed
needed-follows before rec next view e n = simp (view, ne_eqb (needed rec) 0 n) at e

-- the follower that a view needs is a record without fault: of an accepted point file, as the laws of a pair show
abbrev pub FollowersFine : (points : List ℕ) → Type 0
FollowersFine points =
    (i : ℕ) → 1 ≤ i → i < last_of points → is_view (record_at Point.width points i) ≡ true
    → (needed (record_at Point.width points i) ≡ 0 → ⊥)
    → point_fault (record_at Point.width points (i + 1)) ≡ 0

-- of the event that a view names, if it names one
abbrev pub NamedFine : Option Event → Type 0
NamedFine none = Unit {0}
NamedFine (some e) = EventFine e

module _ (points : List ℕ) (a : Accepted point_format points) (followers : FollowersFine points) where
  module _ (i : ℕ) (low : 1 ≤ i) (high : i < last_of points) (view : is_view (record_of points i) ≡ true) where
    abbrev rec : List ℕ
    rec = record_of points i

    abbrev next : List ℕ
    next = record_of points (i + 1)

    -- by whether none is needed
    abbrev follower : Bool → List ℕ
    follower t = cond t (zeros Point.width) next

    follower_long : (t : Bool) → length (follower t) ≡ Point.width
    follower_long true = zeros-long Point.width
    follower_long false = record-length Point.width points (i + 1) (omega arith)

    is-followed : (t : Bool) → eqb (needed rec) 0 ≡ t
        → cond t (only 0 (follower t)) (eqb (point_fault (follower t)) 0 && follows rec (follower t)) ≡ true
    is-followed true z = zeros-only Point.width
    is-followed false z =
        let due = eqb-false (needed rec) 0 z in
        and_yes (eq-eqb (point_fault next) 0 (followers i low high view due))
        (needed-follows (record_of points (i - 1)) rec next view (a.each i low high).in-place due)

    -- a live view of the file may be kept
    pub keepable : is_live rec ≡ true → Keepable (present_at points i)
    unfolding present_at well_kept followed
    keepable live =
        record {
          view_long = record-length Point.width points i (omega arith);
          follower_long = follower_long (eqb (needed rec) 0);
          kept =
              and_yes (eq-eqb (point_fault rec) 0 (a.each i low high).well_formed)
              (and_yes view (and_yes live (is-followed (eqb (needed rec) 0) refl)));
        }

  module _ (place : ℕ) (low : 1 ≤ place) (high : place < last_of points) (view : is_view (record_of points place) ≡ true) where
    abbrev letter : ℕ
    letter = letter_at points place

    abbrev later : ℕ
    later = next_view points place

    inserted-fine : eqb letter 73 ≡ true → Keepable (present_at points place)
    inserted-fine e = keepable place low high view (rw e)

    replaced-fine : paired points place ≡ true → Keepable (present_at points later)
    unfolding paired
    replaced-fine e =
        let there = ltb-true later (last_of points) (and_left (ltb later (last_of points)) _ e) in
        let rest = and_right (ltb later (last_of points)) _ e in
        let is_c = and_left (eqb (letter_at points later) 67) _ rest in
        keepable later (omega (arith, (next-range [] points (place + 1)).0)) there
        (wanted-view [] (record_of points later) (next-wanted [] points (place + 1) there))
        (rw is_c (or-true (eqb (letter_at points later) 73)))

    pub named-fine : NamedFine (event_at points place)
    unfolding event_at
    named-fine = by_tests (eqb letter 73) (eqb letter 68) (eqb letter 66) (paired points place) refl refl
      where
        by_tests : (t u v w : Bool) → eqb letter 73 ≡ t → paired points place ≡ w
            → NamedFine
            (cond t (some (insert (present_at points place)))
            (cond u (some (remove (identity (record_of points place))))
            (cond (v && w) (some (replace (present_at points later))) none)))
        by_tests true u v w p q = inserted-fine p
        by_tests false true v w p q = tt
        by_tests false false true true p q = replaced-fine q
        by_tests false false true false p q = tt
        by_tests false false false w p q = tt

-- ---- the call

-- where a view that is there stands
view-place : (points : List ℕ) (view : ℕ) → (wanted_at [] points view ≡ 0 → ⊥)
    → (1 ≤ wanted_at [] points view)
    × (wanted_at [] points view < last_of points)
    × (wanted [] (record_at Point.width points (wanted_at [] points view)) ≡ true)
view-place points zero there = absurd (there (wanted-at-zero [] points))
view-place points (suc k) there = by-test (leb (suc k) (wanted_count [] points)) refl
  where
    by-test : (t : Bool) → leb (suc k) (wanted_count [] points) ≡ t
        → (1 ≤ wanted_at [] points (suc k))
        × (wanted_at [] points (suc k) < last_of points)
        × (wanted [] (record_at Point.width points (wanted_at [] points (suc k))) ≡ true)
    by-test true e = wanted-at-wanted [] points (suc k) (omega arith) (leb-true (suc k) (wanted_count [] points) e)
    by-test false e = absurd (there (wanted-at-none [] points (suc k) (leb-false (suc k) (wanted_count [] points) e)))

done-agrees : (book : List ℕ) → is_book book ≡ true → (o : Option Event) → NamedFine o
    → NamedAgrees book (event_done book o) o
done-agrees book is none fine = refl
done-agrees book is (some e) fine = event-means book is e fine

module _ (book points : List ℕ) (view n : ℕ) (is : is_book book ≡ true) (accepts : checked point_format points ≡ Ok n) where
  abbrev place : ℕ
  place = wanted_at [] points view

  asked : event_outcome book points view ≡ event_from book points place
  unfolding event_outcome book_judged
  asked = simp (is, accepts)

  -- "7: no view or point of that number"
  pub call_none : place ≡ 0 → event_outcome book points view ≡ said (refusal 0 NoSuchNumber) book
  call_none e = asked ∙ simp (eq-eqb place 0 e)

  pub call-means : FollowersFine points → (place ≡ 0 → ⊥)
      → NamedAgrees book (event_outcome book points view) (event_at points place)
  call-means followers there =
      let (low, high, want) = view-place points view there in
      let is_view = wanted-view [] (record_of points place) want in
      let fine = named-fine points (accepted point_format points n accepts) followers place low high is_view in
      let done : event_outcome book points view ≡ event_done book (event_at points place) = asked ∙ simp (ne_eqb place 0 there) in
      subst (λ o. NamedAgrees book o (event_at points place)) (sym done) (done-agrees book is (event_at points place) fine)
