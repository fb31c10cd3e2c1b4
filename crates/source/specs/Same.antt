-- What holds of each of some addresses, and look-ups that agree on their keys.
-- Assumes nothing.
use Rattle.std.specs.Prelude.{◌≡◌, true, List, [], ◌∷◌}
use Rattle.source.specs.Address.{Lookup, Address, present, Asked, keys_of}

-- each of these addresses has a property
abbrev pub AllOf : (Address → Type 0) → List Address → Type 0
AllOf P [] = Unit {0}
AllOf P (a ∷ more) = P a × AllOf P more

-- for each of these keys that is not zero both have the same row, or neither has one
abbrev pub Agree : Lookup → Lookup → List Asked → Type 0
Agree look other [] = Unit {0}
Agree look other (a ∷ more) =
    (present a.key ≡ true → look a.kind a.key ≡ other a.kind a.key) × Agree look other more

-- for every key that one of these addresses refers to
abbrev pub AllAgree : Lookup → Lookup → List Address → Type 0
AllAgree look other = AllOf (λ a. Agree look other (keys_of a))
