-- One byte counted.
-- Assumes nothing.
use Rattle.std.specs.Prelude.{ℕ, ◌+◌, ◌-◌, ◌<◌, cond, List, get_or, set}
use Rattle.field.specs.Digits.{digit}

-- a digit has one more
abbrev pub one_more : List ℕ → ℕ → List ℕ
one_more counts b = cond (digit b) (set counts (b - 48) (get_or counts (b - 48) 0 + 1)) counts

-- there is room for one more
abbrev pub Below : List ℕ → Type 0
Below counts = (d : ℕ) → d < 10 → get_or counts d 0 < 9_223_372_036_854_775_808
