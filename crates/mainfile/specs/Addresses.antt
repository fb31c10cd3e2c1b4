-- The addresses of a set, each from its record and the organisation that chapter 5 joins to it.
-- Assumes nothing.
use Rattle.std.specs.Prelude.{ℕ, zero, suc, ◌-◌, ◌/◌, Bool, true, cond, not, List, [], ◌∷◌, eqb, length, get_or}
use Rattle.field.specs.Digits.{value}
use Rattle.field.specs.Text.{part, text_in}
use Rattle.file_record.specs.Parts.{record_at}
use Rattle.mainfile_record.specs.Address as At
use Rattle.mainfile_record.specs.Organisation as Row
use Rattle.source.specs.Address.{Organisation, none_needed, named, lacking, Address}
use Rattle.mainfile.specs.Set.{Set}
use Rattle.mainfile.specs.Rows.{organisation_row}

-- "An S address with an organisation key above zero, and every L address, needs the organisation row that chapter 5 joins to
-- it; an S address with key zero has none"
abbrev pub is_large : List ℕ → Bool
is_large rec = eqb (get_or rec At.postcode_type 0) 76

unfoldable pub needs_row : List ℕ → Bool
needs_row rec = cond (is_large rec) (true) (not (eqb (value (part rec At.organisation_key At.postcode_type)) 0))

-- "Organisation Key for a Small User refers to a record in the Organisations File .. For a Large User the Address Key points
-- to a record in the Organisation file"
unfoldable pub joined_row : (organisations rec : List ℕ) → ℕ
joined_row organisations rec =
    cond (is_large rec)
    (organisation_row organisations 76 (value (part rec At.address_key At.locality)))
    (organisation_row organisations 83 (value (part rec At.organisation_key At.postcode_type)))

abbrev pub organisation_at : (organisations : List ℕ) → ℕ → Organisation
organisation_at organisations row =
    cond (eqb row 0) lacking
    (named (text_in (record_at Row.width organisations row) Row.name Row.department)
    (text_in (record_at Row.width organisations row) Row.department Row.department_end))

abbrev pub organisation_of : (organisations rec : List ℕ) → Organisation
organisation_of organisations rec =
    cond (needs_row rec) (organisation_at organisations (joined_row organisations rec)) none_needed

-- what an address record says; it has no amendment letter
unfoldable pub address_of : (n : ℕ) → (rec organisations : List ℕ) → Address
address_of n rec organisations =
    record {
      view = n;
      letter = 0;
      outward = part rec At.outward At.inward;
      inward = part rec At.inward At.address_key;
      suffix = part rec At.suffix At.indicator;
      postcode_type = get_or rec At.postcode_type 0;
      address_key = value (part rec At.address_key At.locality);
      organisation_key = value (part rec At.organisation_key At.postcode_type);
      locality = value (part rec At.locality At.thoroughfare);
      thoroughfare = value (part rec At.thoroughfare At.descriptor);
      descriptor = value (part rec At.descriptor At.dependent);
      dependent = value (part rec At.dependent At.dependent_descriptor);
      dependent_descriptor = value (part rec At.dependent_descriptor At.number);
      building = value (part rec At.building At.sub_building);
      sub_building = value (part rec At.sub_building At.households);
      number = value (part rec At.number At.building);
      concatenation = eqb (get_or rec At.concatenation 0) 89;
      box = part rec At.box At.box_end;
      indicator = eqb (get_or rec At.indicator 0) 89;
      organisation = organisation_of organisations rec;
    }

-- "A view is an address record, numbered from 1 in file order": k of them from number n on
abbrev pub addresses_from : Set → (k n : ℕ) → List Address
addresses_from s zero n = []
addresses_from s (suc k) n =
    address_of n (record_at At.width s.addresses n) s.organisations ∷ addresses_from s k (suc n)

unfoldable pub addresses_in : Set → List Address
addresses_in s = addresses_from s (length s.addresses / At.width - 2) 1
