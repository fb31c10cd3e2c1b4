-- Slots searched from the first on.
-- Assumes nothing.
use Rattle.std.specs.Prelude.{ℕ, zero, suc, Bool, true, cond, ◌&&◌}

-- the first of n from s on that passes a test; s + n where none does
abbrev pub first_from : (ℕ → Bool) → (n s : ℕ) → ℕ
first_from test zero s = s
first_from test (suc n) s = cond (test s) s (first_from test n (suc s))

-- whether each of n from s on passes
abbrev pub all_from : (ℕ → Bool) → (n s : ℕ) → Bool
all_from test zero s = true
all_from test (suc n) s = test s && all_from test n (suc s)
