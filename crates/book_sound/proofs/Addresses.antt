-- The delivery points of a book, where none is refused, are what a pack may hold.
-- Assumes nothing.
use Prim.Native.Nat.{ℕ, zero, suc, ◌+◌, ◌≤◌, ◌<◌}
use mathlib.Core.Path.{◌≡◌, sym, subst}
use mathlib.Core.Bool.{true, ◌&&◌}
use mathlib.Core.List.{List, [], ◌∷◌}
use native.Mathlib.Omega.{arith}
use borrow.Author.Tests.{eqb-true, ne_eqb}
use lib.Dec.{eqb}
use lib.ListN.{length, get_or}
use Rattle.field.proofs.Tests.{and_left, and_right}
use Rattle.file_record.proofs.Records.{part_length, record-length}
use Rattle.file_fault.specs.Point.{point_fault}
use Rattle.file.specs.Formats.{needed, follows}
use Rattle.changes_views.specs.Views.{is_view, is_live}
use Rattle.source.specs.Address.{Lookup}
use Rattle.source.specs.Same.{AllOf}
use Rattle.ask.specs.Source.{in_code}
use Rattle.changes_source.specs.Addresses.{address_of}
use Rattle.pack.specs.Cutting.{first_bad}
use Rattle.pack.specs.Sound.{AddressesSound}
use Rattle.pack_sound.proofs.Fields.{FieldsSound}
use Rattle.pack_sound.proofs.Addresses.{Rising, addresses-sound as code-sound}
use Rattle.changes_sound.proofs.Follower.{follower-type}
use Rattle.changes_sound.proofs.Addresses.{record-sound}
use Rattle.book.specs.Layout.{slot_at, count_of, place_of, view_of, follower_of}
use Rattle.book.specs.Book.{followed, well_kept, holder}
use Rattle.book.specs.Meaning.{Present, present_from, means}
use Rattle.book.proofs.Good.{BookFacts, holder-of}
use Rattle.book_source.specs.Source.{addresses_from, addresses_of}
use Rattle.book_source.proofs.Walked.{held}
use Rattle.refusal.specs.Verdict.{fine}

-- a follower that is due stands there
follower-kept : (rec next : List ℕ) → followed rec next ≡ true → (needed rec ≡ 0 → ⊥)
    → (get_or next 41 0 ≡ needed rec) × (point_fault next ≡ 0)
unfolding followed
follower-kept rec next e due =
    let both : eqb (point_fault next) 0 && follows rec next ≡ true = rw (ne_eqb (needed rec) 0 due) at e in (
      follower-type rec next (and_right (eqb (point_fault next) 0) (follows rec next) both),
      eqb-true (point_fault next) 0 (and_left (eqb (point_fault next) 0) (follows rec next) both),
    )

-- what is well kept is well formed
kept-sound : (rec next : List ℕ) (n : ℕ) → length rec ≡ 168 → well_kept rec next ≡ true → n ≤ 99_999_999
    → FieldsSound (address_of n rec next)
unfolding well_kept
kept-sound rec next n long kept small =
    let follow = followed rec next in
    let rest = and_right (eqb (point_fault rec) 0) (is_view rec && (is_live rec && follow)) kept in
    let view = eqb-true (get_or rec 41 0) 49 (and_left (is_view rec) (is_live rec && follow) rest) in
    let good = eqb-true (point_fault rec) 0 (and_left (eqb (point_fault rec) 0) (is_view rec && (is_live rec && follow)) kept) in
    let due = and_right (is_live rec) follow (and_right (is_view rec) (is_live rec && follow) rest) in
    record-sound rec next n long view good (follower-kept rec next due) small

module _ (book : List ℕ) (facts : BookFacts book) where
  abbrev slot : ℕ → List ℕ
  slot = slot_at book

  fields_at : (p : ℕ) → 1 ≤ p → p ≤ count_of book
      → FieldsSound (address_of p (view_of (slot (holder slot p))) (follower_of (slot (holder slot p))))
  fields_at p h k =
      let low = held book facts p h k in
      let s = holder slot p in
      let some : 1 ≤ place_of (slot s) = subst (1 ≤◌) (sym (holder-of slot p low)) h in
      let whole : length (slot s) ≡ 338 = record-length 338 book s (omega (arith, facts.long)) in
      let long : length (view_of (slot s)) ≡ 168 = part_length (slot s) 2 170 (omega arith) (omega arith) in
      kept-sound (view_of (slot s)) (follower_of (slot s)) p long (facts.good.kept s low some) (omega (arith, facts.few))

  fields-from : (n p : ℕ) → 1 ≤ p → p + n ≤ suc (count_of book) → AllOf FieldsSound (addresses_from p (present_from slot n p))
  fields-from zero p h k = tt
  fields-from (suc n) p h k = (fields_at p h (omega arith), fields-from n (suc p) (omega arith) (omega arith))

  -- the fields of every delivery point are well formed
  pub book-fields : AllOf FieldsSound (addresses_of book)
  unfolding addresses_of means
  book-fields = fields-from (count_of book) 1 (omega arith) (omega arith)

-- they are numbered on
rises-from : (low p : ℕ) (present : List Present) → low < p → Rising low (addresses_from p present)
unfolding address_of
rises-from low p [] h = tt
rises-from low p (e ∷ more) h = (h, rises-from p (suc p) more (omega arith))

pub book-rises : (book : List ℕ) → Rising 0 (addresses_of book)
unfolding addresses_of
book-rises book = rises-from 0 1 (means book) (omega arith)

pub addresses-sound : (look : Lookup) (book code : List ℕ) → BookFacts book
    → first_bad look (in_code code (addresses_of book)) ≡ fine
    → AddressesSound look code 0 (in_code code (addresses_of book))
addresses-sound look book code facts =
    code-sound look code (addresses_of book) (book-rises book) (book-fields book facts)
