-- The organisations file of an accepted set: its numbers never fall, so that the search finds the last record of a type and a
-- key.
-- Assumes nothing.
use Prim.Native.Nat.{ℕ, suc, ◌+◌, ◌-◌, ◌*◌, ◌/◌, ◌≤◌, ◌<◌}
use mathlib.Core.Path.{◌≡◌, refl, sym, ap, ◌∙◌}
use mathlib.Core.Bool.{Bool, true, false, ◌&&◌}
use mathlib.Core.List.{List, [], ◌∷◌, ◌++◌}
use native.Mathlib.Omega.{arith}
use borrow.Author.Tests.{ne_eqb, eq-eqb, eqb-true, eqb-false}
use lib.Dec.{eqb}
use lib.ListN.{length, get_or}
use Rattle.field.specs.Test.{every}
use Rattle.field.specs.Digits.{digit, value}
use Rattle.field.specs.Text.{part}
use Rattle.field.proofs.Texts.{part-bound, part-byte}
use Rattle.field.proofs.Values.{value-whole}
use Rattle.field.proofs.Fronts.{digits-below}
use Rattle.file_record.specs.Parts.{record_at}
use Rattle.file_record.proofs.Records.{part_length, record-length}
use Rattle.file_compare.specs.Order.{order}
use Rattle.file_compare.proofs.Order.{by_bytes, first_below, first-same}
use Rattle.file_compare.proofs.Digits.{digits-rise}
use Rattle.file_fault.proofs.Passing.{key-pass, fields-pass}
use Rattle.mainfile_fault.specs.Faults.{organisation_record, main_organisation_fault}
use Rattle.file.specs.Accepted.{Accepted}
use Rattle.file.specs.Mainfile as Format
use Rattle.shelf.specs.Shelf.{last_from}
use Rattle.shelf.specs.Search.{last_found_in}
use Rattle.shelf.proofs.Search.{last-found-before}
use Rattle.shelf.proofs.Last.{last_as, up_to, last-found-in}
use Rattle.mainfile.specs.Rows.{organisation_is, organisation_row}
use Rattle.mainfile_source.specs.Organisations.{organisation_number, number_at, last_in, organisation_found}

-- ---- type and key as one number

same_number : (a b c d : ℕ) → b < 100_000_000 → d < 100_000_000
    → eqb (organisation_number a b) (organisation_number c d) ≡ eqb a c && eqb b d
same_number a b c d p q = by_tests (eqb a c) (eqb b d) refl refl
  where
    by_tests : (t u : Bool) → eqb a c ≡ t → eqb b d ≡ u → eqb (organisation_number a b) (organisation_number c d) ≡ t && u
    by_tests true true e f = eq-eqb (organisation_number a b) (organisation_number c d) (omega (arith, eqb-true a c e, eqb-true b d f))
    by_tests true false e f = let n = eqb-false b d f in ne_eqb (organisation_number a b) (organisation_number c d) (λ (z : organisation_number a b ≡ organisation_number c d). n (omega (arith, eqb-true a c e)))
    by_tests false u e f = let n = eqb-false a c e in ne_eqb (organisation_number a b) (organisation_number c d) (λ (z : organisation_number a b ≡ organisation_number c d). n (omega arith))

-- bytes that rise are numbers that rise
number-rises : (x y : ℕ) (a b : List ℕ) → length a ≡ 8 → length b ≡ 8 → every digit a ≡ true → every digit b ≡ true
    → order (x ∷ a) (y ∷ b) ≡ 2 → organisation_number y (value b) < organisation_number x (value a)
number-rises x y a b m n p q o =
    by_bytes x y
    (λ l. absurd (omega (arith, first_below x y a b l)))
    (λ e.
    let rise = digits-rise a b (m ∙ sym n) p q (sym (first-same x y a b e) ∙ o) in
    omega (arith, value-whole a (omega arith), value-whole b (omega arith)))
    (λ g. omega (arith, digits-below 8 b (omega arith) (omega arith)))

-- ---- one record

one-long : (l : List ℕ) → length l ≡ 1 → l ≡ get_or l 0 0 ∷ []
one-long [] e = absurd (omega arith)
one-long (x ∷ []) e = refl
one-long (x ∷ y ∷ l) e = absurd (omega arith)

module _ (file : List ℕ) where
  abbrev type_at : ℕ → ℕ
  type_at i = get_or (record_at 153 file i) 8 0

  abbrev key_at : ℕ → List ℕ
  key_at i = part (record_at 153 file i) 0 8

  key-small : (i : ℕ) → value (key_at i) < 100_000_000
  key-small i = digits-below 8 (key_at i) (omega arith) (part-bound (record_at 153 file i) 0 8)

  compared : (i : ℕ) → i < length file / 153
      → part (record_at 153 file i) 8 9 ++ key_at i ≡ type_at i ∷ key_at i
  compared i h =
      let rec = record_at 153 file i in
      let long = record-length 153 file i h in
      let one = one-long (part rec 8 9) (omega (arith, part_length rec 8 9 (omega arith) (omega arith))) in
      ap (λ (l : List ℕ). l ++ key_at i) (one ∙ ap (λ x. x ∷ []) (part-byte rec 8))

  -- what the search gives stands before the trailer, whatever the bytes are
  pub organisation-before : (type key : ℕ) → organisation_found file type key ≤ last_in file - 1
  unfolding organisation_found
  organisation-before type key = last-found-before (number_at file) (organisation_number type key) (last_in file)

  module _ (t : Accepted Format.organisations file) where
    keyed : (i : ℕ) → 1 ≤ i → i < last_in file → every digit (key_at i) ≡ true
    unfolding main_organisation_fault
    keyed i p q =
        let rec = record_at 153 file i in
        key-pass (key_at i) (fields-pass 0 (organisation_record rec) rec (t.each i p q).well_formed).0

    key-length : (i : ℕ) → i < last_in file → length (key_at i) ≡ 8
    key-length i h =
        let long = record-length 153 file i (omega arith) in
        omega (arith, part_length (record_at 153 file i) 0 8 (omega arith) (omega arith))

    rises : (i : ℕ) → 1 ≤ i → suc i < last_in file → number_at file i ≤ number_at file (suc i)
    unfolding number_at
    rises i p q =
        let fine = t.each (suc i) (omega arith) q in
        let later : eqb (suc i) 1 ≡ false = ne_eqb (suc i) 1 (λ z. omega arith) in
        let back : suc i - 1 ≡ i = omega arith in
        let up =
        rw (later, back, compared i (omega arith), compared (suc i) (omega arith)) at fine.rising in
        omega (
          arith,
          number-rises (type_at (suc i)) (type_at i) (key_at (suc i)) (key_at i) (key-length (suc i) q)
              (key-length i (omega arith)) (keyed (suc i) (omega arith) q) (keyed i p (omega arith))
              (eqb-true (order (type_at (suc i) ∷ key_at (suc i)) (type_at i ∷ key_at i)) 2 up),
        )

    pub organisation-found : (type key : ℕ) → key < 100_000_000
        → organisation_found file type key ≡ organisation_row file type key
    unfolding organisation_found organisation_row number_at
    organisation-found type key small =
        let r = organisation_number type key in
        let count : last_in file - 1 ≡ length file / 153 - 2 = omega arith in
        last-found-in (number_at file) r (last_in file) (up_to (number_at file) (last_in file) rises)
        ∙ (last_as (λ i. eqb (number_at file i) r) (organisation_is file type key) (last_in file - 1) 1
        (λ j a b. same_number (type_at j) (value (key_at j)) type key (key-small j) small)
        ∙ ap (λ n. last_from (organisation_is file type key) n 1) count)
