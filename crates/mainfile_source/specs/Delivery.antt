-- What code knows of an address record. Over any bytes; that it says what the record's address says is a law about accepted
-- files.
-- Assumes nothing.
use Rattle.std.specs.Prelude.{ℕ, ◌+◌, ◌*◌, ◌/◌, cond, not, ◌&&◌, List, [], ◌∷◌, eqb, ltb, length, get_or}
use Rattle.field.specs.Digits.{value}
use Rattle.field.specs.Text.{part}
use Rattle.file_record.specs.Parts.{record_at}
use Rattle.mainfile_record.specs.Address as At
use Rattle.mainfile_record.specs.Organisation as Row
use Rattle.source.specs.declared.DeliveryPoint.{DeliveryPoint}
use Rattle.mainfile.specs.Addresses.{is_large, needs_row}
use Rattle.mainfile_source.specs.Organisations.{organisation_found}

-- where record i of an address file starts; 0 where there is none
abbrev pub start_at : List ℕ → ℕ → ℕ
start_at addresses i = cond (ltb i (length addresses / At.width)) (i * At.width) 0

-- the organisation that chapter 5 joins to a record, as the search finds it
abbrev pub joined_found : (organisations rec : List ℕ) → ℕ
joined_found organisations rec =
    cond (is_large rec)
    (organisation_found organisations 76 (value (part rec At.address_key At.locality)))
    (organisation_found organisations 83 (value (part rec At.organisation_key At.postcode_type)))

-- where the record needs one; 0 where it needs none or none is found
unfoldable pub own_found : (organisations rec : List ℕ) → ℕ
own_found organisations rec = cond (needs_row rec) (joined_found organisations rec) 0

-- its seven keys, in offset order
abbrev pub keys_in : List ℕ → List ℕ
keys_in rec =
    value (part rec At.locality At.thoroughfare)
    ∷ value (part rec At.thoroughfare At.descriptor)
    ∷ value (part rec At.descriptor At.dependent)
    ∷ value (part rec At.dependent At.dependent_descriptor)
    ∷ value (part rec At.dependent_descriptor At.number)
    ∷ value (part rec At.building At.sub_building)
    ∷ value (part rec At.sub_building At.households)
    ∷ []

-- from a record, where it starts, and the organisation's row
abbrev pub delivery_of : (rec : List ℕ) → (at row : ℕ) → DeliveryPoint
delivery_of rec at row =
    record {
      keys = keys_in rec;
      number = value (part rec At.number At.building);
      address_key = value (part rec At.address_key At.locality);
      organisation_key = value (part rec At.organisation_key At.postcode_type);
      postcode_type = get_or rec At.postcode_type 0;
      concatenation = eqb (get_or rec At.concatenation 0) 89;
      indicator = eqb (get_or rec At.indicator 0) 89;
      postcode = at + At.outward;
      suffix = at + At.suffix;
      po_box = at + At.box;
      organised = not (eqb row 0);
      organisation = row * Row.width + Row.name;
      lacking = needs_row rec && eqb row 0;
    }

unfoldable pub delivery_at : (addresses organisations : List ℕ) → ℕ → DeliveryPoint
delivery_at addresses organisations i =
    delivery_of (record_at At.width addresses i) (start_at addresses i)
    (own_found organisations (record_at At.width addresses i))
