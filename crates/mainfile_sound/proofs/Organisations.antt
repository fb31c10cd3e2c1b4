-- The organisation that is joined to an address of an accepted set is one that a pack may hold, where there is one.
-- Assumes nothing.
use Prim.Native.Nat.{ℕ, zero, suc, ◌+◌, ◌-◌, ◌/◌, ◌≤◌, ◌<◌}
use mathlib.Core.Path.{◌≡◌, refl, subst, ◌∙◌}
use mathlib.Core.Bool.{Bool, true, false, cond, not, true≢false}
use mathlib.Core.List.{List, [], ◌∷◌}
use native.Mathlib.Omega.{arith}
use borrow.Author.Tests.{eqb-true, eqb-false, ne_eqb}
use lib.Dec.{eqb}
use lib.ListN.{length, get_or}
use Rattle.field.specs.Test.{elem}
use Rattle.field.specs.Digits.{value}
use Rattle.field.specs.Text.{text_fault, filled_fault, part}
use Rattle.field.proofs.Tests.{and_left}
use Rattle.file_record.specs.Parts.{record_at}
use Rattle.file_fault.proofs.Passing.{fields-pass}
use Rattle.mainfile_fault.specs.Faults.{name_fault, organisation_record, main_organisation_fault}
use Rattle.file.specs.Accepted.{Accepted}
use Rattle.file.specs.Mainfile as Format
use Rattle.source.specs.Address.{Organisation, none_needed}
use Rattle.source.specs.Resolve.{lacks_organisation}
use Rattle.shelf.specs.Shelf.{last_from}
use Rattle.mainfile.specs.Rows.{organisation_is, organisation_row}
use Rattle.mainfile.specs.Addresses.{is_large, needs_row, joined_row, organisation_at, organisation_of}
use Rattle.pack.specs.Sound.{OrganisationSound}
use Rattle.pack_sound.proofs.Texts.{filled-text, not-blank}
use Rattle.pack_sound.proofs.Fields.{small-user, named-sound}

-- the last of k places from i on that passes is one of them and passes
record Passing (ok : ℕ → Bool) (k i p : ℕ) : Type 0 where
  from : i ≤ p
  below : p < i + k
  here : ok p ≡ true

last-passes : (ok : ℕ → Bool) (k i p : ℕ) → last_from ok k i ≡ suc p → Passing ok k i (suc p)
last-passes ok zero i p e = absurd (omega arith)
last-passes ok (suc k) i p e = by-rest (last_from ok k (suc i)) refl e (last-passes ok k (suc i) p)
  where
    by-here : (t : Bool) → ok i ≡ t → cond t i 0 ≡ suc p → Passing ok (suc k) i (suc p)
    by-here true q z =
        record { from = omega arith; below = omega arith; here = subst (λ (x : ℕ). ok x ≡ true) z q }
    by-here false q z = absurd (omega arith)

    by-rest : (q : ℕ) → last_from ok k (suc i) ≡ q → cond (eqb q 0) (cond (ok i) i 0) q ≡ suc p
        → (last_from ok k (suc i) ≡ suc p → Passing ok k (suc i) (suc p))
        → Passing ok (suc k) i (suc p)
    by-rest zero q z later = by-here (ok i) refl z
    by-rest (suc n) q z later =
        let there = later (q ∙ (simp (ne_eqb (suc n) 0 (λ x. omega arith)) at z)) in
        record { from = omega (arith, there.from); below = omega (arith, there.below); here = there.here }

-- "an organisation of type S needs a name"; of another type it may be blank
name-passes : (type : ℕ) (rec : List ℕ) (from to : ℕ) → name_fault type (part rec from to) ≡ 0
    → (text_fault (part rec from to) ≡ 0) × (type ≡ 83 → filled_fault (part rec from to) ≡ 0)
name-passes type rec from to e = by-test (eqb type 83) refl e
  where
    by-test : (t : Bool) → eqb type 83 ≡ t
        → cond t (filled_fault (part rec from to)) (text_fault (part rec from to)) ≡ 0
        → (text_fault (part rec from to) ≡ 0) × (type ≡ 83 → filled_fault (part rec from to) ≡ 0)
    by-test true q e = (filled-text rec from to e, λ is. e)
    by-test false q e = (e, λ is. absurd (eqb-false type 83 q is))

module _ (organisations : List ℕ) (t : Accepted Format.organisations organisations) where
  -- what a type and a key find is a record of that type without fault
  record Found (type row : ℕ) : Type 0 where
    of-type : get_or (record_at 153 organisations row) 8 0 ≡ type
    well_formed : main_organisation_fault (record_at 153 organisations row) ≡ 0

  row-found : (type key p : ℕ) → organisation_row organisations type key ≡ suc p → Found type (suc p)
  unfolding organisation_row
  row-found type key p e =
      let last = last-passes (organisation_is organisations type key) (length organisations / 153 - 2) 1 p e in
      record {
        of-type =
            eqb-true (get_or (record_at 153 organisations (suc p)) 8 0) type
            (and_left (eqb (get_or (record_at 153 organisations (suc p)) 8 0) type) _ last.here);
        well_formed = (t.each (suc p) last.from (omega (arith, last.below))).well_formed;
      }

  module _ (type key : ℕ) where
    abbrev Given : Organisation → Type 0
    Given o = lacks_organisation o ≡ false → OrganisationSound type key o

    -- the row of a type and a key, for an address: "S has one with a name exactly when its organisation key is above zero"
    row-given : (wanted k : ℕ) → (type ≡ 83 → (wanted ≡ 83) × (0 < key))
        → Given (organisation_at organisations (organisation_row organisations wanted k))
    unfolding main_organisation_fault
    row-given wanted k small = by_row (organisation_row organisations wanted k) refl
      where
        by_row : (row : ℕ) → organisation_row organisations wanted k ≡ row → Given (organisation_at organisations row)
        by_row zero e there = absurd (true≢false there)
        by_row (suc p) e there =
            let f = row-found wanted k p e in
            let rec = record_at 153 organisations (suc p) in
            let passes = fields-pass 0 (organisation_record rec) rec f.well_formed in
            let name = name-passes (get_or rec 8 0) rec 9 69 passes.1.1.0 in
            simp (ne_eqb (suc p) 0 (λ z. omega arith))
            (named-sound type key rec 9 name.0 passes.1.1.1.0
            (λ (is : type ≡ 83).
            let own = small is in
            (own.1, not-blank rec 9 69 (name.1 (f.of-type ∙ own.0)))))

  -- "An S address with an organisation key above zero, and every L address, needs the organisation row that chapter 5
  -- joins to it; an S address with key zero has none"
  pub organisation-sound : (rec : List ℕ) → elem (get_or rec 77 0) (83 ∷ 76 ∷ []) ≡ true
      → lacks_organisation (organisation_of organisations rec) ≡ false
      → OrganisationSound (get_or rec 77 0) (value (part rec 69 77)) (organisation_of organisations rec)
  unfolding needs_row joined_row
  organisation-sound rec either = by_tests (is_large rec) (eqb key 0) refl refl
    where
      type : ℕ
      type = get_or rec 77 0

      key : ℕ
      key = value (part rec 69 77)

      address : ℕ
      address = value (part rec 7 15)

      by_tests : (large none : Bool) → is_large rec ≡ large → eqb key 0 ≡ none
          → Given type key
          (cond (cond large true (not none))
          (organisation_at organisations
          (cond large (organisation_row organisations 76 address) (organisation_row organisations 83 key)))
          none_needed)
      by_tests true none e f =
          row-given type key 76 address (λ (is : type ≡ 83). absurd (omega (arith, eqb-true type 76 e)))
      by_tests false true e f = λ there. (small-user type either e, eqb-true key 0 f)
      by_tests false false e f =
          row-given type key 83 key (λ (is : type ≡ 83). (refl, omega (arith, eqb-false key 0 f)))
