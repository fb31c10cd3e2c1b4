-- The classes that the code tells apart, as the numbers of `class`.
-- Assumes nothing.
use Rattle.std.specs.Prelude.{ℕ}
use Rattle.field_outward.specs.declared.Class.{Class}
use Rattle.field_outward.specs.declared.Class.TheVariants.{Padding, Letter, Digit, Other}

-- padding 0, a letter 1, a digit 2, none of these 3
abbrev pub number_of : Class → ℕ
number_of Padding = 0
number_of Letter = 1
number_of Digit = 2
number_of Other = 3
