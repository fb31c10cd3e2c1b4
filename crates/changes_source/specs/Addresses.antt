-- The addresses of a point file, each from its view's record and the next.
-- Assumes nothing.
use Rattle.std.specs.Prelude.{ℕ, suc, ◌+◌, Bool, cond, List, [], ◌∷◌, eqb, get_or}
use Rattle.field.specs.Test.{elem}
use Rattle.field.specs.Digits.{value}
use Rattle.field.specs.Text.{part, text_in}
use Rattle.file_record.specs.Parts.{record_at}
use Rattle.file_record.specs.Names.Point
use Rattle.file_record.specs.Names.View
use Rattle.file_record.specs.Names.Organisation as Follower
use Rattle.file.specs.Formats.{needed}
use Rattle.changes_views.specs.Views.{wanted_in}
use Rattle.source.specs.Address.{Organisation, none_needed, named, Address}

-- "organisation 60, department 60" of the follower, where the view needs one
abbrev pub organisation_of : List ℕ → List ℕ → Organisation
organisation_of rec next = cond (eqb (needed rec) 0) none_needed (named (text_in next Follower.name Follower.department) (text_in next Follower.department Follower.department_end))

-- what a view's record and the next say
unfoldable pub address_of : ℕ → List ℕ → List ℕ → Address
address_of n rec next =
    record {
      view = n;
      letter = get_or rec Point.letter 0;
      outward = part rec Point.outward Point.inward;
      inward = part rec Point.inward Point.suffix;
      suffix = part rec Point.suffix Point.postcode_type;
      postcode_type = get_or rec Point.postcode_type 0;
      address_key = value (part rec Point.address_key Point.organisation_key);
      organisation_key = value (part rec Point.organisation_key Point.letter);
      locality = value (part rec View.locality View.thoroughfare);
      thoroughfare = value (part rec View.thoroughfare View.descriptor);
      descriptor = value (part rec View.descriptor View.dependent);
      dependent = value (part rec View.dependent View.dependent_descriptor);
      dependent_descriptor = value (part rec View.dependent_descriptor View.number);
      building = value (part rec View.building View.sub_building);
      sub_building = value (part rec View.sub_building View.households);
      number = value (part rec View.number View.building);
      concatenation = eqb (get_or rec View.concatenation 0) 89;
      box = part rec View.box View.indicator;
      indicator = eqb (get_or rec View.indicator 0) 89;
      organisation = organisation_of rec next;
    }

-- the view at a place of the file
abbrev pub address_at : List ℕ → ℕ → ℕ → Address
address_at points n place = address_of n (record_at Point.width points place) (record_at Point.width points (place + 1))

-- the views at these places, numbered on from n
abbrev pub numbered : List ℕ → ℕ → List ℕ → List Address
numbered points n [] = []
numbered points n (place ∷ places) = address_at points n place ∷ numbered points (suc n) places

-- "A view is a type 1 record of the point file, numbered from 1 in file order"
unfoldable pub addresses_in : List ℕ → List Address
addresses_in points = numbered points 1 (wanted_in [] points)

-- "It is live if its amendment letter is I or C"
abbrev pub live : Address → Bool
live a = elem a.letter (73 ∷ 67 ∷ [])

abbrev pub kept : List Address → List Address
kept [] = []
kept (a ∷ more) = cond (live a) (a ∷ kept more) (kept more)
