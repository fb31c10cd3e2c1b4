-- Laws of the starts of marked rows where no list of them is kept.
-- Assumes nothing.
use Prim.Native.Nat.{ℕ, zero, suc, ◌+◌, ◌≤◌, ◌<◌}
use mathlib.Core.Path.{◌≡◌, refl, ap, ◌∙◌}
use mathlib.Core.List.{List}
use native.Mathlib.Omega.{arith}
use native.Mathlib.Nat.{zero-add}
use lib.ListN.{length, get_or}
use Rattle.shelf.specs.Stock.{Stock}
use Rattle.build.specs.Placed.{start_of, starts_from, starts_of, Placed}

module _ (st : Stock) (marks : List ℕ) where
  from-long : (k i : ℕ) → length (starts_from st marks k i) ≡ k
  from-long zero i = refl
  from-long (suc k) i = ap suc (from-long k (suc i))

  from_at : (k i j : ℕ) → j < k → get_or (starts_from st marks k i) j 0 ≡ start_of st marks (i + j)
  from_at zero i j h = absurd (omega arith)
  from_at (suc k) i zero h = ap (start_of st marks) (let same : i ≡ i + 0 = omega arith in same)
  from_at (suc k) i (suc j) h =
      from_at k (suc i) j (omega arith) ∙ ap (start_of st marks) (let same : suc i + j ≡ i + suc j = omega arith in same)

  pub starts-at : (i : ℕ) → i < length marks → get_or (starts_of st marks) i 0 ≡ start_of st marks i
  unfolding starts_of
  starts-at i h = from_at (length marks) 0 i h ∙ ap (start_of st marks) (zero-add i)

  pub starts-placed : st.last ≤ length marks → Placed st marks (starts_of st marks)
  unfolding starts_of
  starts-placed long =
      record { same_long = from-long (length marks) 0; each = λ i low high. starts-at i (omega (arith, long)) }
