-- The search by halves, over any bytes.
-- Assumes nothing.
use Rattle.std.specs.Prelude.{ℕ, zero, suc, ◌+◌, ◌-◌, ◌/◌, ◌≤◌, ◌<◌, ◌≡◌, Bool, cond, ◌&&◌, List, eqb, ltb, length, get_or}
use Rattle.shelf.specs.declared.Shelf.{Shelf}
use Rattle.shelf.specs.Shelf.{ref_at, last_of, in_force}

abbrev pub middle : ℕ → ℕ → ℕ
middle low high = low + (high - low) / 2

-- the first place from low up to high that passes, were those that pass to stand last; high where none does
abbrev pub bisect : (ℕ → Bool) → ℕ → ℕ → ℕ → ℕ
bisect ok zero low high = low
bisect ok (suc fuel) low high =
    cond (ltb low high)
    (cond (ok (middle low high)) (bisect ok fuel low (middle low high)) (bisect ok fuel (suc (middle low high)) high))
    low

-- behind the last of some numbers, given by their places, that is not above r
abbrev pub upper_of : (ℕ → ℕ) → (last r : ℕ) → ℕ
upper_of refs last r = bisect (λ i. ltb r (refs i)) last 1 last

-- the place before that, where r stands there; 0 where it does not
abbrev pub last_found_in : (ℕ → ℕ) → (last r : ℕ) → ℕ
last_found_in refs last r =
    cond (ltb 1 (upper_of refs last r) && eqb (refs (upper_of refs last r - 1)) r) (upper_of refs last r - 1) 0

module _ (s : Shelf) (file : List ℕ) where
  unfoldable pub last_found : ℕ → ℕ
  last_found r = last_found_in (ref_at s file) (last_of s file) r

  -- that record, where it is in force
  unfoldable pub found : ℕ → ℕ
  found r = in_force s file (last_found r)

-- an array that has each record's number at the record's place, so that a search there reads no record
pub record Filled (s : Shelf) (file refs : List ℕ) : Type 0 where
  pub long : last_of s file ≤ length refs
  pub each : (i : ℕ) → 1 ≤ i → i < last_of s file → get_or refs i 0 ≡ ref_at s file i
