-- Delivery points whose fields that are packed as they stand lie within the slice that holds them.
-- Assumes nothing.
use Rattle.std.specs.Prelude.{ℕ, List, [], ◌∷◌}
use Rattle.build.specs.Plan.{Packed}
use Rattle.build.specs.Within.{FieldsWithin}

abbrev pub AllWithin : List ℕ → List Packed → Type 0
AllWithin own [] = Unit {0}
AllWithin own (d ∷ ds) = FieldsWithin own d.point × AllWithin own ds
