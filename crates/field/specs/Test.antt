-- Tests of bytes and of lists of bytes. A test answers a Bool; the test of a field answers a place.
-- Assumes nothing.
use Rattle.std.specs.Prelude.{ℕ, suc, Bool, true, false, cond, not, ◌&&◌, ◌||◌, List, [], ◌∷◌, leb, eqb}

-- low to high, both included
abbrev pub within : ℕ → ℕ → ℕ → Bool
within low high b = leb low b && leb b high

-- low to high without from to to
abbrev pub member : ℕ → ℕ → ℕ → ℕ → ℕ → Bool
member low high from to b = within low high b && not (within from to b)

abbrev pub elem : ℕ → List ℕ → Bool
elem b [] = false
elem b (x ∷ xs) = eqb b x || elem b xs

abbrev pub every : (ℕ → Bool) → List ℕ → Bool
every ok [] = true
every ok (x ∷ xs) = ok x && every ok xs

-- every byte is b
abbrev pub only : ℕ → List ℕ → Bool
only b s = every (λ x. eqb x b) s

-- where the first byte stands that fails the test, counting on from `at`; 0 where none fails
abbrev pub fault_from : (ℕ → Bool) → ℕ → List ℕ → ℕ
fault_from ok at [] = 0
fault_from ok at (x ∷ xs) = cond (ok x) (fault_from ok (suc at) xs) at

-- "at which byte of its field the first fault stands (1 is the first byte; .."
abbrev pub first_fault : (ℕ → Bool) → List ℕ → ℕ
first_fault ok s = fault_from ok 1 s
