-- Laws of the rows of a pack.
-- Assumes nothing.
use Prim.Native.Nat.{ℕ, suc, ◌+◌, ◌-◌, ◌≤◌, ◌<◌}
use mathlib.Core.Path.{◌≡◌}
use mathlib.Core.Bool.{true}
use mathlib.Core.List.{List}
use native.Mathlib.Omega.{arith}
use lib.Dec.{eqb}
use lib.ListN.{length}
use Rattle.std.proofs.lemmas.Grind.{common_steps}
use Rattle.pack.specs.Opening.{row_kind, row_end, row_good, rows_good}

-- a good row ends within the rows
pub row_within : (rows : List ℕ) (low at : ℕ) → row_good rows low at ≡ true → row_end rows at ≤ length rows
unfolding row_good
row_within rows low at good = grind (arith, common_steps)

-- one row more
module _ (rows : List ℕ) (count i low at : ℕ) where
  pub rows_step : i < count → row_good rows low at ≡ true
      → rows_good rows (count - i) low at ≡ rows_good rows (count - (i + 1)) (row_kind rows at) (row_end rows at)
  rows_step h e = rw (let size : count - i ≡ suc (count - (i + 1)) = omega arith in size) (simp e)

  pub rows_end : count ≤ i → rows_good rows (count - i) low at ≡ eqb at (length rows)
  rows_end h = rw (let size : count - i ≡ 0 = omega arith in size)
