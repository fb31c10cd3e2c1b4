-- Header and trailer.
-- Assumes nothing.
use Rattle.std.specs.Prelude.{ℕ, ◌+◌, Bool, cond, not, ◌&&◌, List, eqb, Option, Some, None}
use Rattle.field.specs.Test.{only}
use Rattle.field.specs.Digits.{digits_fault, value}
use Rattle.field.specs.Text.{part}
use Rattle.file_compare.specs.Order.{same}
use Rattle.file_ends.specs.declared.Identifier.{Identifier}
use Rattle.file_ends.specs.declared.Identifier.TheVariants.{Proper, Spaces}

-- an identifier: 1 proper, 2 spaces, 0 neither
-- "Header identifier: all zero bytes or all spaces. Trailer identifier: all 255 or all spaces."
unfoldable pub identifier : ℕ → List ℕ → ℕ
identifier proper s = cond (only proper s) 1 (cond (only 32 s) 2 0)

-- the identifier that such a number stands for
abbrev pub identified : ℕ → Option Identifier
identified n = cond (eqb n 1) (Some Proper) (cond (eqb n 2) (Some Spaces) None)

-- "Header: identifier .., file identifier 8"; the rest is not read
unfoldable pub header_ok : ℕ → List ℕ → List ℕ → Bool
header_ok w name rec = not (eqb (identifier 0 (part rec 0 w)) 0) && same (part rec w (w + 8)) name

-- "Trailer: identifier .., count 8"; "The count is the number of records in the file"
unfoldable pub trailer_ok : ℕ → ℕ → List ℕ → Bool
trailer_ok w n rec =
    not (eqb (identifier 255 (part rec 0 w)) 0)
    && (eqb (digits_fault (part rec w (w + 8))) 0 && eqb (value (part rec w (w + 8))) n)
