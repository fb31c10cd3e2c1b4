-- Document 01's run, and each forbidden combination, computed from the definitions.
-- Assumes nothing.
use Prim.Native.Nat.{ℕ}
use mathlib.Core.Path.{◌≡◌, refl}
use mathlib.Core.Bool.{Bool, false, cond, ◌&&◌}
use mathlib.Core.List.{List, [], ◌∷◌}
use mathlib.Core.Option.{none, some}
use lib.Dec.{eqb}
use Rattle.refusal.specs.declared.Reason.TheVariants.{Combination, MissingKey}
use Rattle.source.specs.Address.{Lookup, none_needed, Address, Elements}
use Rattle.source.specs.Resolve.{forbidden, missing, elements_of, Resolved, elements, refused, resolve}

-- "locality 1 HARTWELL BAY, thoroughfare 7 QUARRY, descriptor 3 LANE, building 9 `110-114`, sub building 4 ATTIC FLAT"
abbrev pub bay : List ℕ
bay = 72 ∷ 65 ∷ 82 ∷ 84 ∷ 87 ∷ 69 ∷ 76 ∷ 76 ∷ 32 ∷ 66 ∷ 65 ∷ 89 ∷ []

abbrev pub quarry : List ℕ
quarry = 81 ∷ 85 ∷ 65 ∷ 82 ∷ 82 ∷ 89 ∷ []

abbrev pub lane : List ℕ
lane = 76 ∷ 65 ∷ 78 ∷ 69 ∷ []

abbrev pub range : List ℕ
range = 49 ∷ 49 ∷ 48 ∷ 45 ∷ 49 ∷ 49 ∷ 52 ∷ []

abbrev pub attic : List ℕ
attic = 65 ∷ 84 ∷ 84 ∷ 73 ∷ 67 ∷ 32 ∷ 70 ∷ 76 ∷ 65 ∷ 84 ∷ []

abbrev pub is_row : ℕ → ℕ → ℕ → ℕ → Bool
is_row kind key k n = eqb kind k && eqb key n

abbrev pub tables : Lookup
tables kind key =
    cond (is_row kind key 1 1) (some (bay ∷ [] ∷ [] ∷ []))
    (cond (is_row kind key 2 7) (some (quarry ∷ []))
    (cond (is_row kind key 3 3) (some (lane ∷ []))
    (cond (is_row kind key 4 9) (some (range ∷ []))
    (cond (is_row kind key 5 4) (some (attic ∷ []))
    none))))

-- a view of AB1 9ZZ with these keys
abbrev pub view : ℕ → ℕ → ℕ → ℕ → ℕ → ℕ → ℕ → Address
view locality street descriptor dependent dependent_descriptor building sub =
    record {
      view = 1;
      letter = 73;
      outward = 65 ∷ 66 ∷ 49 ∷ 32 ∷ [];
      inward = 57 ∷ 90 ∷ 90 ∷ [];
      suffix = 49 ∷ 65 ∷ [];
      postcode_type = 83;
      address_key = 1;
      organisation_key = 0;
      locality = locality;
      thoroughfare = street;
      descriptor = descriptor;
      dependent = dependent;
      dependent_descriptor = dependent_descriptor;
      building = building;
      sub_building = sub;
      number = 0;
      concatenation = false;
      box = 32 ∷ 32 ∷ 32 ∷ 32 ∷ 32 ∷ 32 ∷ [];
      indicator = false;
      organisation = none_needed;
    }

-- what view 1 is printed from
abbrev pub printed : Elements
printed =
    record {
      organisation = [];
      department = [];
      box = [];
      sub_building = attic;
      building = range;
      number = 0;
      concatenation = false;
      dependent = [];
      dependent_descriptor = [];
      thoroughfare = quarry;
      descriptor = lane;
      double_locality = [];
      dependent_locality = [];
      town = bay;
      outward = 65 ∷ 66 ∷ 49 ∷ [];
      inward = 57 ∷ 90 ∷ 90 ∷ [];
    }

-- view 1, view 2 ("the same but building key 10": 9 with 6), and the rest in the order of the refusals: each forbidden
-- combination, a locality key of zero, a row that is not there; 8 before 9
abbrev pub asked : List Resolved
asked =
    resolve tables (view 1 7 3 0 0 9 4)
    ∷ resolve tables (view 1 7 3 0 0 10 4)
    ∷ resolve tables (view 1 7 3 0 0 0 4)
    ∷ resolve tables (view 1 0 0 7 0 9 4)
    ∷ resolve tables (view 1 0 3 0 0 9 4)
    ∷ resolve tables (view 1 7 0 0 3 9 4)
    ∷ resolve tables (view 0 7 3 0 0 9 4)
    ∷ resolve tables (view 2 7 3 0 0 10 4)
    ∷ resolve tables (view 0 7 3 0 0 0 4)
    ∷ []

pub worked : asked
    ≡ elements printed
    ∷ refused (MissingKey 6 0)
    ∷ refused (Combination 1 0)
    ∷ refused (Combination 2 0)
    ∷ refused (Combination 3 0)
    ∷ refused (Combination 3 0)
    ∷ refused (MissingKey 1 0)
    ∷ refused (MissingKey 1 0)
    ∷ refused (Combination 1 0)
    ∷ []
unfolding forbidden missing elements_of resolve
worked = refl
