-- The rows of a shelf whose numbers never fall are what a builder rests on.
-- Assumes nothing.
use Prim.Native.Nat.{ℕ, zero, suc, ◌≤◌, ◌<◌}
use mathlib.Core.Path.{◌≡◌, sym}
use mathlib.Core.List.{List}
use native.Mathlib.Omega.{arith}
use Rattle.shelf.specs.declared.Shelf.{Shelf}
use Rattle.shelf.specs.Shelf.{ref_at, last_of, row_of, NeverFalls}
use Rattle.shelf.specs.Stock.{stock_of, Good}
use Rattle.shelf.proofs.Last.{rises, row-of-some, row-of-last}

module _ (s : Shelf) (file : List ℕ) where
  pub stock-found : (r p : ℕ) → row_of s file r ≡ suc p → (suc p < last_of s file) × (ref_at s file (suc p) ≡ r)
  stock-found r p e = let (o, l, q) = row-of-some s file r p e in (l, q)

  module _ (never : NeverFalls s file) where
    pub stock-rise : (i j : ℕ) → 1 ≤ i → i < j → j < last_of s file → row_of s file (ref_at s file i) ≡ i
        → ref_at s file i < ref_at s file j
    stock-rise zero j o h l e = absurd (omega arith)
    stock-rise (suc i) j o h l e =
        let up = rises s file never (suc i) j o (omega arith) l in
        let other : ref_at s file j ≡ ref_at s file (suc i) → ⊥ = row-of-last s file (ref_at s file (suc i)) i e j h l in
        omega (arith, other)

    -- types and keys above zero and of types 1 to 5 come from the file's format
    pub stock-good : ((i : ℕ) → 1 ≤ i → i < last_of s file → 0 < ref_at s file i)
        → ((i : ℕ) → 1 ≤ i → i < last_of s file → ref_at s file i < 600_000_000)
        → Good (stock_of s file)
    stock-good low high = record { low = low; high = high; rise = stock-rise; found = stock-found }
