-- The last space of a line that is too long, by the places that were looked at.
-- Assumes nothing.
use Prim.Native.Nat.{ℕ, zero, suc, ◌≤◌, ◌<◌}
use mathlib.Core.Path.{◌≡◌, refl, ap, ◌∙◌}
use mathlib.Core.Bool.{Bool, true, false}
use mathlib.Core.List.{List}
use native.Mathlib.Omega.{arith}
use borrow.Author.Tests.{leb-true, leb-false, eq-eqb, ne_eqb}
use lib.Dec.{leb}
use lib.ListN.{get_or}
use Rattle.std.specs.Prelude.{Option, Some, None, MatchOption}
use Rattle.van.specs.Fold.{columns, space_within}

module _ (bytes : List ℕ) where
  -- no space stands behind place k, up to place n
  abbrev pub NoneBehind : (k n : ℕ) → Type 0
  NoneBehind k n = (j : ℕ) → k < j → j ≤ n → get_or bytes j 0 ≡ 32 → ⊥

  within-low : (k n : ℕ) → k ≤ n → NoneBehind k n → space_within n bytes ≡ space_within k bytes
  unfolding space_within
  within-low k zero h none = ap (λ (m : ℕ). space_within m bytes) (let e : 0 ≡ k = omega arith in e)
  within-low k (suc n) h none = by-test (leb (suc n) k) refl (within-low k n)
    where
      by-test : (t : Bool) → leb (suc n) k ≡ t
          → (k ≤ n → NoneBehind k n → space_within n bytes ≡ space_within k bytes)
          → space_within (suc n) bytes ≡ space_within k bytes
      by-test true e lower =
          let same : suc n ≡ k = omega (arith, leb-true (suc n) k e) in ap (λ (m : ℕ). space_within m bytes) same
      by-test false e lower =
          let more : k < suc n = leb-false (suc n) k e in
          rw (ne_eqb (get_or bytes (suc n) 0) 32 (none (suc n) more (omega arith)))
          (lower (omega arith) (λ j a b. none j a (omega arith)))

  there : (k : ℕ) → 0 < k → get_or bytes k 0 ≡ 32 → space_within k bytes ≡ k
  unfolding space_within
  there zero some h = absurd (omega arith)
  there (suc n) some h = rw (eq-eqb (get_or bytes (suc n) 0) 32 h)

  nowhere : space_within 0 bytes ≡ 0
  unfolding space_within
  nowhere = refl

  -- the last space, or none
  abbrev pub Looked : Option ℕ → Type 0
  Looked r =
      MatchOption r (NoneBehind 0 columns)
      (λ k. (0 < k) × (k ≤ columns) × (get_or bytes k 0 ≡ 32) × NoneBehind k columns)

  pub looked : (r : Option ℕ) → Looked r
      → MatchOption r (space_within columns bytes ≡ 0) (λ k. (0 < k) × (k ≤ columns) × (space_within columns bytes ≡ k))
  looked None none = within-low 0 columns (omega arith) none ∙ nowhere
  looked (Some k) at = (at.0, at.1, within-low k columns at.1 at.3 ∙ there k at.0 at.2)
