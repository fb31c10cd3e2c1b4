-- What code knows of a delivery point: that it says what an address says, which rows its keys find, and refusals 8 and 9 by
-- these.
-- Assumes nothing.
use Rattle.std.specs.Prelude.{ℕ, suc, ◌+◌, ◌≤◌, ◌<◌, ◌≡◌, Bool, false, cond, not, ◌&&◌, List, [], ◌∷◌, eqb, length, get_or}
use Rattle.field.specs.Text.{part, text_in}
use Rattle.refusal.specs.declared.Reason.TheVariants.{Combination, MissingKey}
use Rattle.source.specs.declared.DeliveryPoint.{DeliveryPoint}
use Rattle.source.specs.Address.{Organisation, none_needed, named, lacking, Address, present, Asked, key_kinds, key_numbers, asked_by, ref}
use Rattle.source.specs.Resolve.{forbidden_of}
use Rattle.std.specs.Prelude.{Err}
use Rattle.refusal.specs.Verdict.{Verdict, fine}

-- ---- that it says what an address says

-- keys of eight digits
abbrev pub Small : List ℕ → Type 0
Small [] = Unit {0}
Small (k ∷ ks) = (k < 100_000_000) × Small ks

-- its organisation, from the bytes that hold it: "organisation 60, department 60"
abbrev pub organisation_in : List ℕ → DeliveryPoint → Organisation
organisation_in others p =
    cond p.organised
    (named (text_in others p.organisation (p.organisation + 60))
    (text_in others (p.organisation + 60) (p.organisation + 120)))
    (cond p.lacking lacking none_needed)

-- `own` holds postcode, suffix and PO box, `others` the organisation
pub record Says (own others : List ℕ) (p : DeliveryPoint) (a : Address) : Type 0 where
  pub keys : p.keys ≡ key_numbers a
  pub small : Small (key_numbers a)
  pub number : p.number ≡ a.number
  pub address_key : p.address_key ≡ a.address_key
  pub organisation_key : p.organisation_key ≡ a.organisation_key
  pub postcode_type : p.postcode_type ≡ a.postcode_type
  pub concatenation : p.concatenation ≡ a.concatenation
  pub indicator : p.indicator ≡ a.indicator
  pub outward : part own p.postcode (p.postcode + 4) ≡ a.outward
  pub inward : part own (p.postcode + 4) (p.postcode + 7) ≡ a.inward
  pub suffix : part own p.suffix (p.suffix + 2) ≡ a.suffix
  pub box : part own p.po_box (p.po_box + 6) ≡ a.box
  pub organisation : organisation_in others p ≡ a.organisation
  -- an organisation that is there is not lacking
  pub one : (p.lacking && p.organised) ≡ false

-- the texts of a delivery point lie within the slice that holds it
pub record Within (own : List ℕ) (p : DeliveryPoint) : Type 0 where
  pub postcode : p.postcode + 7 ≤ length own
  pub suffix : p.suffix + 2 ≤ length own
  pub box : p.po_box + 6 ≤ length own
  pub organisation : p.organisation + 120 ≤ length own

-- ---- which rows its keys find

-- by a way from the number of a row to its place, 0 where there is none: 0 too where a key is zero
abbrev pub rows_for : (ℕ → ℕ) → List Asked → List ℕ
rows_for row [] = []
rows_for row (a ∷ more) = cond (present a.key) (row (ref a.kind a.key)) 0 ∷ rows_for row more

abbrev pub asked_of : DeliveryPoint → List Asked
asked_of p = asked_by key_kinds p.keys

-- ---- refusals 8 and 9

abbrev pub has : DeliveryPoint → ℕ → Bool
has p n = present (get_or p.keys n 0)

-- refusal 8: 0 where nothing is forbidden
unfoldable pub forbidden_in : DeliveryPoint → ℕ
forbidden_in p =
    forbidden_of (has p 6) (has p 5) (present p.number) (has p 1) (has p 2) (has p 3) (has p 4)

-- "a key that isn't zero has no row": the first of these, counted on from n; 0 where there is none
abbrev pub lacking_from : ℕ → (keys rows : List ℕ) → ℕ
lacking_from n [] rows = 0
lacking_from n (k ∷ ks) [] = 0
lacking_from n (k ∷ ks) (r ∷ rs) = cond (present k && eqb r 0) n (lacking_from (suc n) ks rs)

-- refusal 9: "or the locality key is zero"; behind the keys, field 8 is an organisation that is needed and not there
unfoldable pub missing_in : DeliveryPoint → (rows : List ℕ) → ℕ
missing_in p rows =
    cond (not (has p 0)) 1
    (cond (eqb (lacking_from 1 p.keys rows) 0) (cond p.lacking 8 0) (lacking_from 1 p.keys rows))

-- "8, 9, .. lowest detail first"
unfoldable pub refusal_in : DeliveryPoint → (rows : List ℕ) → Verdict
refusal_in p rows =
    cond (eqb (forbidden_in p) 0)
    (cond (eqb (missing_in p rows) 0) fine (Err (MissingKey (missing_in p rows) 0)))
    (Err (Combination (forbidden_in p) 0))
