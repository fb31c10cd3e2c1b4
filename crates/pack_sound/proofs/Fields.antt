-- What the fields of an address are where its record is well formed, whatever its keys find.
-- Assumes nothing.
use Prim.Native.Nat.{ℕ, ◌+◌, ◌-◌, ◌≤◌, ◌<◌}
use mathlib.Core.Path.{◌≡◌, refl, sym}
use mathlib.Core.Bool.{Bool, true, false, true≢false}
use mathlib.Core.List.{List, [], ◌∷◌}
use native.Mathlib.Omega.{arith}
use borrow.Author.Tests.{eqb-true}
use lib.Dec.{eqb}
use lib.ListN.{length}
use Rattle.field.specs.Test.{elem}
use Rattle.field.specs.Digits.{value}
use Rattle.field.specs.Text.{text_fault, part, text_in}
use Rattle.field.proofs.Texts.{part-bound}
use Rattle.field.proofs.Fronts.{digits-below}
use Rattle.field_outward.specs.Outward.{outward_fault}
use Rattle.field_outward.specs.Inward.{inward_fault, suffix_fault}
use Rattle.source.specs.Address.{named, Address, keys_of}
use Rattle.source.specs.Resolve.{lacks_organisation}
use Rattle.label.specs.Lines.{is_empty}
use Rattle.pack.specs.Sound.{OrganisationSound, KeysFit}
use Rattle.pack_sound.proofs.Texts.{may-be-blank}

-- an organisation that is needed and not there is no fault of a field
pub record FieldsSound (a : Address) : Type 0 where
  pub outward : outward_fault a.outward ≡ 0
  pub inward : inward_fault a.inward ≡ 0
  pub suffix : suffix_fault a.suffix ≡ 0
  pub type : elem a.postcode_type (83 ∷ 76 ∷ []) ≡ true
  pub address_key : a.address_key ≤ 99_999_999
  pub organisation_key : a.organisation_key ≤ 99_999_999
  pub number : a.number ≤ 9_999
  pub box_long : length a.box ≡ 6
  pub box_good : text_fault a.box ≡ 0
  pub view : a.view ≤ 99_999_999
  pub keys : KeysFit (keys_of a)
  pub organisation : lacks_organisation a.organisation ≡ false
      → OrganisationSound a.postcode_type a.organisation_key a.organisation

-- a field of at most eight bytes says at most 99,999,999
pub key_fits : (rec : List ℕ) (from to : ℕ) → to - from ≤ 8 → value (part rec from to) ≤ 99_999_999
key_fits rec from to h =
    let s = part rec from to in omega (arith, digits-below 8 s (omega arith) (omega (arith, part-bound rec from to)))

-- one of four at most 9,999
pub number_fits : (rec : List ℕ) (from to : ℕ) → to - from ≤ 4 → value (part rec from to) ≤ 9_999
number_fits rec from to h =
    let s = part rec from to in omega (arith, digits-below 4 s (omega arith) (omega (arith, part-bound rec from to)))

-- "Postcode type S or L"
pub small-user : (type : ℕ) → elem type (83 ∷ 76 ∷ []) ≡ true → eqb type 76 ≡ false → type ≡ 83
small-user type e f = by-test (eqb type 83) refl
  where
    by-test : (t : Bool) → eqb type 83 ≡ t → type ≡ 83
    by-test true q = eqb-true type 83 q
    by-test false q = absurd (true≢false (sym (simp (q, f) at e)))

-- "organisation 60, department 60", from a byte of a record on
pub named-sound : (type key : ℕ) (rec : List ℕ) (at : ℕ) → text_fault (part rec at (at + 60)) ≡ 0
    → text_fault (part rec (at + 60) (at + 120)) ≡ 0
    → (type ≡ 83 → (0 < key) × (is_empty (text_in rec at (at + 60)) ≡ false))
    → OrganisationSound type key (named (text_in rec at (at + 60)) (text_in rec (at + 60) (at + 120)))
named-sound type key rec at name department small = (
  may-be-blank rec at (at + 60) 60 (omega arith) name,
  (may-be-blank rec (at + 60) (at + 120) 60 (omega arith) department, small),
)
