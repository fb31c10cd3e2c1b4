-- Numeric fields and their values.
-- Assumes nothing.
use Rattle.std.specs.Prelude.{ℕ, ◌+◌, ◌-◌, ◌*◌, Bool, cond, List, [], ◌∷◌, eqb, take}
use Rattle.field.specs.Test.{within, first_fault}

-- 0 to 9
abbrev pub digit : ℕ → Bool
digit b = within 48 57 b

-- "Numeric fields are digits throughout"
unfoldable pub digits_fault : List ℕ → ℕ
digits_fault s = first_fault digit s

-- what a digit says; any other byte says 0
unfoldable pub digit_value : ℕ → ℕ
digit_value b = cond (digit b) (b - 48) 0

-- whether a byte adds nothing to a value but its place
abbrev pub zero_digit : ℕ → Bool
zero_digit b = eqb (digit_value b) 0

-- the digits read from the front, v being the value so far
abbrev pub value_from : ℕ → List ℕ → ℕ
value_from v [] = v
value_from v (x ∷ xs) = value_from (v * 10 + digit_value x) xs

-- the value of a numeric field, none of which is wider than nine bytes; of a wider one, that of its first nine
unfoldable pub value : List ℕ → ℕ
value s = value_from 0 (take 9 s)
