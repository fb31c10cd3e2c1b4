-- From an address to what is printed of it, or refusal 8 or 9: "7, 8, 9, 10, lowest detail first".
-- Assumes nothing.
use Rattle.std.specs.Prelude.{ℕ, suc, Bool, true, false, cond, not, ◌&&◌, ◌||◌, List, [], ◌∷◌, eqb, get_or}
use Rattle.std.proofs.Math.Option.{Option, none, some}
use Rattle.field.specs.Text.{trim}
use Rattle.refusal.specs.declared.Reason.{Reason}
use Rattle.refusal.specs.declared.Reason.TheVariants.{Combination, MissingKey}
use Rattle.source.specs.Address.{Lookup, Organisation, none_needed, named, lacking, Address, present, Asked, keys_of, Elements}

-- refusal 8, by what is present: 0 where nothing is forbidden
-- "1: sub building without name or number; 2: dependent thoroughfare without thoroughfare; 3: descriptor without its own
-- name"
abbrev pub forbidden_of : Bool → Bool → Bool → Bool → Bool → Bool → Bool → ℕ
forbidden_of sub name number street descriptor dependent dependent_descriptor =
    cond (sub && not (name || number)) 1
    (cond (dependent && not street) 2
    (cond ((descriptor && not street) || (dependent_descriptor && not dependent)) 3
    0))

unfoldable pub forbidden : Address → ℕ
forbidden a =
    forbidden_of (present a.sub_building) (present a.building) (present a.number) (present a.thoroughfare)
    (present a.descriptor) (present a.dependent) (present a.dependent_descriptor)

abbrev pub lacks : Option (List (List ℕ)) → Bool
lacks none = true
lacks (some texts) = false

-- refusal 9: the first field "that isn't zero" and "has no row", counted on from n; 0 where there is none
abbrev pub missing_from : Lookup → ℕ → List Asked → ℕ
missing_from look n [] = 0
missing_from look n (a ∷ as') =
    cond (present a.key && lacks (look a.kind a.key)) n (missing_from look (suc n) as')

abbrev pub lacks_organisation : Organisation → Bool
lacks_organisation none_needed = false
lacks_organisation (named name department) = false
lacks_organisation lacking = true

-- "or the locality key is zero"; behind the keys, field 8 is an organisation that is needed and not there
unfoldable pub missing : Lookup → Address → ℕ
missing look a =
    cond (not (present a.locality)) 1
    (cond (eqb (missing_from look 1 (keys_of a)) 0) (cond (lacks_organisation a.organisation) 8 0)
    (missing_from look 1 (keys_of a)))

-- the n-th text of the row that a key finds; none where the key is zero
abbrev pub text_or : Option (List (List ℕ)) → ℕ → List ℕ
text_or none n = []
text_or (some texts) n = get_or texts n []

abbrev pub text_of : Lookup → ℕ → ℕ → ℕ → List ℕ
text_of look kind key n = cond (present key) (text_or (look kind key) n) []

abbrev pub name_of : Organisation → List ℕ
name_of none_needed = []
name_of (named name department) = name
name_of lacking = []

abbrev pub department_of : Organisation → List ℕ
department_of none_needed = []
department_of (named name department) = department
department_of lacking = []

unfoldable pub elements_of : Lookup → Address → Elements
elements_of look a =
    record {
      organisation = name_of a.organisation;
      department = department_of a.organisation;
      box = trim a.box;
      sub_building = text_of look 5 a.sub_building 0;
      building = text_of look 4 a.building 0;
      number = a.number;
      concatenation = a.concatenation;
      dependent = text_of look 2 a.dependent 0;
      dependent_descriptor = text_of look 3 a.dependent_descriptor 0;
      thoroughfare = text_of look 2 a.thoroughfare 0;
      descriptor = text_of look 3 a.descriptor 0;
      double_locality = text_of look 1 a.locality 2;
      dependent_locality = text_of look 1 a.locality 1;
      town = text_of look 1 a.locality 0;
      outward = trim a.outward;
      inward = a.inward;
    }

pub data Resolved : Type 0 where
  elements : Elements → Resolved
  refused : Reason → Resolved

unfoldable pub resolve : Lookup → Address → Resolved
resolve look a =
    cond (eqb (forbidden a) 0)
    (cond (eqb (missing look a) 0) (elements (elements_of look a)) (refused (MissingKey (missing look a) 0)))
    (refused (Combination (forbidden a) 0))
