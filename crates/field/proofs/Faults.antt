-- Laws of `every` and of the first fault: what a loop over the bytes needs at each turn, and what callers need.
-- Assumes nothing.
use Prim.Native.Nat.{ℕ, suc, ◌+◌, ◌≤◌, ◌<◌}
use mathlib.Core.Path.{◌≡◌, refl}
use mathlib.Core.Bool.{Bool, true, false, cond, not, ◌&&◌, ◌||◌}
use mathlib.Core.List.{List, [], ◌∷◌}
use native.Mathlib.Omega.{arith}
use native.Mathlib.Numerals.{add-one}
use lib.ListN.{length, drop, get_or, drop_of_length-le}
use lib.Seq.{drop-cons}
use Rattle.field.specs.Test.{every, fault_from}
use Rattle.field.proofs.Tests.{and_left, and_right, and-true}

module _ (ok : ℕ → Bool) where
  gathered : (bad t rest : Bool) → not bad && (t && rest) ≡ not (bad || not t) && rest
  gathered true t rest = refl
  gathered false true rest = refl
  gathered false false rest = refl

  -- one byte more of a loop that gathers
  pub every-step : (s : List ℕ) (i : ℕ) (bad : Bool) → i < length s
      → not bad && every ok (drop i s) ≡ not (bad || not (ok (get_or s i 0))) && every ok (drop (i + 1) s)
  every-step s i bad h =
      rw (add-one, drop-cons s i 0 h) (gathered bad (ok (get_or s i 0)) (every ok (drop (suc i) s)))

  pub every-end : (s : List ℕ) (i : ℕ) (bad : Bool) → length s ≤ i → not bad && every ok (drop i s) ≡ not bad
  every-end s i bad h = rw (drop_of_length-le s h) (and-true (not bad))

  -- one byte more of a loop that looks for the place
  pub fault-step : (s : List ℕ) (i : ℕ) → i < length s → ok (get_or s i 0) ≡ true
      → fault_from ok (i + 1) (drop i s) ≡ fault_from ok (i + 1 + 1) (drop (i + 1) s)
  fault-step s i h e = simp (add-one, drop-cons s i 0 h, e)

  pub fault-stop : (s : List ℕ) (i : ℕ) → i < length s → ok (get_or s i 0) ≡ false
      → fault_from ok (i + 1) (drop i s) ≡ i + 1
  fault-stop s i h e = simp (drop-cons s i 0 h, e)

  pub fault-end : (s : List ℕ) (i at : ℕ) → length s ≤ i → fault_from ok at (drop i s) ≡ 0
  fault-end s i at h = simp (drop_of_length-le s h)

  -- no fault where every byte passes, and only there
  pub no-fault : (s : List ℕ) (at : ℕ) → every ok s ≡ true → fault_from ok at s ≡ 0
  no-fault [] at e = refl
  no-fault (x ∷ xs) at e =
      rw (and_left (ok x) (every ok xs) e) (no-fault xs (suc at) (and_right (ok x) (every ok xs) e))

  pub no-fault-every : (s : List ℕ) (at : ℕ) → fault_from ok (suc at) s ≡ 0 → every ok s ≡ true
  no-fault-every [] at e = refl
  no-fault-every (x ∷ xs) at e = by-test (ok x) (λ h. no-fault-every xs (suc at) h) e
    where
      by-test : (t : Bool) → (fault_from ok (suc (suc at)) xs ≡ 0 → every ok xs ≡ true)
          → cond t (fault_from ok (suc (suc at)) xs) (suc at) ≡ 0
          → t && every ok xs ≡ true
      by-test true later e = later e
      by-test false later e = absurd (omega arith)

  module _ (ko : ℕ → Bool) (same : (b : ℕ) → ok b ≡ ko b) where
    pub every-same : (s : List ℕ) → every ok s ≡ every ko s
    every-same [] = refl
    every-same (x ∷ xs) = rw (same x, every-same xs)

    pub fault-same : (s : List ℕ) (at : ℕ) → fault_from ok at s ≡ fault_from ko at s
    fault-same [] at = refl
    fault-same (x ∷ xs) at = rw (same x, fault-same xs (suc at))

  -- a fault stands in the field
  pub fault-bound : (s : List ℕ) (at : ℕ) → fault_from ok at s ≤ at + length s
  fault-bound [] at = omega arith
  fault-bound (x ∷ xs) at = by-test (ok x) (fault-bound xs (suc at))
    where
      by-test : (t : Bool) → fault_from ok (suc at) xs ≤ suc at + length xs
          → cond t (fault_from ok (suc at) xs) at ≤ at + suc (length xs)
      by-test true h = omega arith
      by-test false h = omega arith
