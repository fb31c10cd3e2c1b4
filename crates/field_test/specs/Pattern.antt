-- Where digits are to stand in a record, as a pattern.
-- Assumes nothing.
use Rattle.std.specs.Prelude.{ℕ, Bool, true, not, ◌&&◌, List, [], ◌∷◌, eqb}
use Rattle.field.specs.Digits.{digit}

-- a digit stands wherever the pattern has a 9; behind the shorter of both nothing is asked
abbrev pub digits_where : List ℕ → List ℕ → Bool
digits_where [] pattern = true
digits_where (x ∷ xs) [] = true
digits_where (x ∷ xs) (p ∷ ps) = not (eqb p 57 && not (digit x)) && digits_where xs ps
