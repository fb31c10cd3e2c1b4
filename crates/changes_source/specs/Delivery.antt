-- What code knows of the view at a place of a point file. Over any bytes; that it says what the view's address says is a law
-- about accepted files.
-- Assumes nothing.
use Rattle.std.specs.Prelude.{ℕ, ◌+◌, ◌*◌, ◌/◌, Bool, false, cond, not, List, [], ◌∷◌, eqb, ltb, length, get_or}
use Rattle.field.specs.Digits.{value}
use Rattle.field.specs.Text.{part}
use Rattle.file_record.specs.Parts.{record_at}
use Rattle.file_record.specs.Names.Point
use Rattle.file_record.specs.Names.View
use Rattle.file_record.specs.Names.Organisation as Follower
use Rattle.file.specs.Formats.{needed}
use Rattle.source.specs.declared.DeliveryPoint.{DeliveryPoint}

-- where its seven keys of eight digits start, in offset order
abbrev pub key_places : List ℕ
key_places =
    View.locality
    ∷ View.thoroughfare
    ∷ View.descriptor
    ∷ View.dependent
    ∷ View.dependent_descriptor
    ∷ View.building
    ∷ View.sub_building
    ∷ []

-- what the keys at these places of a record say
abbrev pub keys_at : List ℕ → List ℕ → List ℕ
keys_at rec [] = []
keys_at rec (at ∷ more) = value (part rec at (at + 8)) ∷ keys_at rec more

-- where record i of a point file starts; 0 where there is none
abbrev pub start_at : List ℕ → ℕ → ℕ
start_at points i = cond (ltb i (length points / Point.width)) (i * Point.width) 0

-- whether a follower stands behind a view's record
abbrev pub organised : List ℕ → Bool
organised rec = not (eqb (needed rec) 0)

-- from a record, and where it starts; its follower stands behind it
abbrev pub delivery_of : List ℕ → ℕ → DeliveryPoint
delivery_of rec at =
    record {
      keys = keys_at rec key_places;
      number = value (part rec View.number View.building);
      address_key = value (part rec Point.address_key Point.organisation_key);
      organisation_key = value (part rec Point.organisation_key Point.letter);
      postcode_type = get_or rec Point.postcode_type 0;
      concatenation = eqb (get_or rec View.concatenation 0) 89;
      indicator = eqb (get_or rec View.indicator 0) 89;
      postcode = at + Point.outward;
      suffix = at + Point.suffix;
      po_box = at + View.box;
      organised = organised rec;
      organisation = at + (Point.width + Follower.name);
      lacking = false;
    }

unfoldable pub delivery_at : List ℕ → ℕ → DeliveryPoint
delivery_at points i = delivery_of (record_at Point.width points i) (start_at points i)
