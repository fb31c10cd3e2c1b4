-- Outward codes.
-- Assumes nothing.
use Rattle.std.specs.Prelude.{ℕ, zero, suc, ◌+◌, ◌*◌, Bool, cond, ◌&&◌, List, [], ◌∷◌, eqb, length}
use Rattle.field.specs.Test.{elem}
use Rattle.field.specs.Digits.{digit}
use Rattle.field.specs.Text.{letter}
use Rattle.field_outward.specs.Letters.{first_row, second_row, third_row, marked}

-- what a byte of a code is: 1 a letter (A), 2 a digit (N), 0 padding, 3 none of these
unfoldable pub class : ℕ → ℕ
class b = cond (letter b) 1 (cond (digit b) 2 (cond (eqb b 32) 0 3))

-- the classes of a code, read as the digits of one number
abbrev pub sequence_from : ℕ → List ℕ → ℕ
sequence_from q [] = q
sequence_from q (x ∷ xs) = sequence_from (q * 10 + class x) xs

-- "padded with spaces to 4: letters and digits in one of six patterns, AN, ANN, AAN, AANN, ANA, AANA"
abbrev pub patterns : List ℕ
patterns = 1200 ∷ 1220 ∷ 1120 ∷ 1122 ∷ 1210 ∷ 1121 ∷ []

-- whether a letter may stand behind so many letters of the code
unfoldable pub allowed : ℕ → ℕ → Bool
allowed zero b = marked first_row b
allowed (suc zero) b = marked second_row b
allowed (suc (suc more)) b = marked third_row b

-- "Counting only the letters": the place of the first letter that may not stand where it stands, by a rule for each
-- number of letters before
abbrev pub letters_by : (ℕ → ℕ → Bool) → ℕ → ℕ → List ℕ → ℕ
letters_by rule before at [] = 0
letters_by rule before at (x ∷ xs) =
    cond (letter x) (cond (rule before x) (letters_by rule (suc before) (suc at) xs) at)
    (letters_by rule before (suc at) xs)

abbrev pub letters_fault : ℕ → ℕ → List ℕ → ℕ
letters_fault before at s = letters_by allowed before at s

-- a code of another length, or in none of the patterns, is at fault at byte 1; a forbidden letter is its own byte
unfoldable pub outward_fault : List ℕ → ℕ
outward_fault s = cond (eqb (length s) 4 && elem (sequence_from 0 s) patterns) (letters_fault 0 1 s) 1
