-- Rows, addresses and elements. Nothing here knows of files, records or packs.
-- Assumes nothing.
use Rattle.std.specs.Prelude.{ℕ, ◌+◌, ◌*◌, ◌/◌, ◌%◌, Bool, not, List, [], ◌∷◌, eqb}
use Rattle.std.proofs.Math.Option.{Option}

-- A row of a table has a kind (1 locality, 2 thoroughfare, 3 descriptor, 4 building name, 5 sub building name), a key, and
-- texts without padding (of a locality: town, dependent, double dependent; of another kind one).

-- from a kind and a key to the texts of the row that they find, or nothing
abbrev pub Lookup : Type 0
Lookup = ℕ → ℕ → Option (List (List ℕ))

-- the organisation of a delivery point: none, its name and department, or one that is needed and not there
pub data Organisation : Type 0 where
  none_needed : Organisation
  named : List ℕ → List ℕ → Organisation
  lacking : Organisation

-- what one delivery point says
pub record Address : Type 0 where
  pub view : ℕ
  pub letter : ℕ
  pub outward : List ℕ
  pub inward : List ℕ
  pub suffix : List ℕ
  pub postcode_type : ℕ
  pub address_key : ℕ
  pub organisation_key : ℕ
  pub locality : ℕ
  pub thoroughfare : ℕ
  pub descriptor : ℕ
  pub dependent : ℕ
  pub dependent_descriptor : ℕ
  pub building : ℕ
  pub sub_building : ℕ
  pub number : ℕ
  pub concatenation : Bool
  pub box : List ℕ
  pub indicator : Bool
  pub organisation : Organisation

-- "A zero key or zero building number means absent"
abbrev pub present : ℕ → Bool
present key = not (eqb key 0)

-- a key as it is asked for: its kind and itself
pub record Asked : Type 0 where
  pub kind : ℕ
  pub key : ℕ

abbrev pub asked : ℕ → ℕ → Asked
asked k n = record { kind = k; key = n }

-- "in offset order": locality, thoroughfare, descriptor, dependent thoroughfare, its descriptor, building name, sub
-- building; the kinds of the rows that the seven keys refer to, and the keys
abbrev pub key_kinds : List ℕ
key_kinds = 1 ∷ 2 ∷ 3 ∷ 2 ∷ 3 ∷ 4 ∷ 5 ∷ []

abbrev pub key_numbers : Address → List ℕ
key_numbers a =
    a.locality
    ∷ a.thoroughfare
    ∷ a.descriptor
    ∷ a.dependent
    ∷ a.dependent_descriptor
    ∷ a.building
    ∷ a.sub_building
    ∷ []

-- keys of these kinds, as they are asked for
abbrev pub asked_by : List ℕ → List ℕ → List Asked
asked_by [] ns = []
asked_by (k ∷ ks) [] = []
asked_by (k ∷ ks) (n ∷ ns) = asked k n ∷ asked_by ks ns

abbrev pub keys_of : Address → List Asked
keys_of a = asked_by key_kinds (key_numbers a)

-- what a row stands for, as one number: its type, and its key in the last eight digits; so a rising order is "by type then
-- key". A row of type 6 stands for its view.
abbrev pub ref : ℕ → ℕ → ℕ
ref kind key = kind * 100_000_000 + key

abbrev pub kind_of : ℕ → ℕ
kind_of r = r / 100_000_000

abbrev pub key_of : ℕ → ℕ
key_of r = r % 100_000_000

-- what a label is printed from; an empty text is absent, and so is the number 0
pub record Elements : Type 0 where
  pub organisation : List ℕ
  pub department : List ℕ
  pub box : List ℕ
  pub sub_building : List ℕ
  pub building : List ℕ
  pub number : ℕ
  pub concatenation : Bool
  pub dependent : List ℕ
  pub dependent_descriptor : List ℕ
  pub thoroughfare : List ℕ
  pub descriptor : List ℕ
  pub double_locality : List ℕ
  pub dependent_locality : List ℕ
  pub town : List ℕ
  pub outward : List ℕ
  pub inward : List ℕ
