-- Rows for which there are marks.
-- Assumes nothing.
use Prim.Native.Nat.{ℕ, zero, suc, ◌<◌}
use mathlib.Core.Bool.{Bool, true, false, cond}
use mathlib.Core.List.{List, [], ◌∷◌}
use native.Mathlib.Omega.{arith}
use lib.ListN.{length, get_or}
use Rattle.source.specs.Address.{present, Asked, ref}
use Rattle.source.specs.Delivery.{rows_for}
use Rattle.build_mark.specs.Below.{Below}

pub below_at : (n : ℕ) (rows : List ℕ) → Below n rows → (i : ℕ) → i < length rows → get_or rows i 0 < n
below_at n [] b i h = absurd (omega (arith, h))
below_at n (row ∷ rows) b zero h = b.0
below_at n (row ∷ rows) b (suc i) h = below_at n rows b.1 i (omega (arith, h))

-- the rows that keys find, where each row found is below a bound
pub rows-below : (row : ℕ → ℕ) (n : ℕ) → 0 < n → ((r : ℕ) → row r < n) → (keys : List Asked) → Below n (rows_for row keys)
rows-below row n some h [] = tt
rows-below row n some h (a ∷ more) = (by-test (present a.key), rows-below row n some h more)
  where
    by-test : (t : Bool) → cond t (row (ref a.kind a.key)) 0 < n
    by-test true = h (ref a.kind a.key)
    by-test false = some
