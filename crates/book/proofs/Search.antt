-- Laws of a search: what is found passes and is the first that does, and all pass where each does.
-- Assumes nothing.
use Prim.Native.Nat.{ℕ, zero, suc, ◌+◌, ◌-◌, ◌≤◌, ◌<◌}
use mathlib.Core.Path.{◌≡◌, refl, sym, ap, ◌∙◌}
use mathlib.Core.Bool.{Bool, true, false, cond, true≢false, ◌&&◌, and_assoc}
use mathlib.Core.Logic.{⊎_elim}
use native.Mathlib.Omega.{arith}
use native.Mathlib.Nat.{eq-or-lt_of_le}
use native.Mathlib.Numerals.{add-one}
use borrow.Author.Tests.{eqb-true, eqb-false}
use lib.Dec.{eqb}
use Rattle.field.proofs.Tests.{and_left, and_right, and-true}
use Rattle.book.specs.Search.{first_from, all_from}

-- a range from s on: its first, or one of the rest
pub first-or : {P : Type 0} {s t : ℕ} → s ≤ t → (s ≡ t → P) → (suc s ≤ t → P) → P
first-or h here later = ⊎_elim here later (eq-or-lt_of_le h)

-- two numbers are the same, or they are not
pub equal-or : {P : Type 0} (x y : ℕ) → (x ≡ y → P) → ((x ≡ y → ⊥) → P) → P
equal-or {P} x y equal other = by-test (eqb x y) refl
  where
    by-test : (t : Bool) → eqb x y ≡ t → P
    by-test true e = equal (eqb-true x y e)
    by-test false e = other (eqb-false x y e)

module _ (test : ℕ → Bool) where
  pub first-low : (n s : ℕ) → s ≤ first_from test n s
  first-low zero s = omega arith
  first-low (suc n) s = by-test (test s) (first-low n (suc s))
    where
      by-test : (t : Bool) → suc s ≤ first_from test n (suc s) → s ≤ cond t s (first_from test n (suc s))
      by-test true h = omega arith
      by-test false h = omega arith

  pub first-high : (n s : ℕ) → first_from test n s ≤ s + n
  first-high zero s = omega arith
  first-high (suc n) s = by-test (test s) (first-high n (suc s))
    where
      by-test : (t : Bool) → first_from test n (suc s) ≤ suc s + n → cond t s (first_from test n (suc s)) ≤ s + suc n
      by-test true h = omega arith
      by-test false h = omega arith

  -- what is found passes
  pub first_passes : (n s : ℕ) → first_from test n s < s + n → test (first_from test n s) ≡ true
  first_passes zero s h = absurd (omega arith)
  first_passes (suc n) s h = by-test (test s) refl (first_passes n (suc s)) h
    where
      by-test : (t : Bool) → test s ≡ t
          → (first_from test n (suc s) < suc s + n → test (first_from test n (suc s)) ≡ true)
          → cond t s (first_from test n (suc s)) < s + suc n
          → test (cond t s (first_from test n (suc s))) ≡ true
      by-test true e later k = e
      by-test false e later k = later (omega arith)

  -- and none before it does
  pub first-most : (n s t : ℕ) → s ≤ t → t < s + n → test t ≡ true → first_from test n s ≤ t
  first-most zero s t low high e = absurd (omega arith)
  first-most (suc n) s t low high e = by-test (test s) refl (first-most n (suc s) t)
    where
      by-test : (u : Bool) → test s ≡ u
          → (suc s ≤ t → t < suc s + n → test t ≡ true → first_from test n (suc s) ≤ t)
          → cond u s (first_from test n (suc s)) ≤ t
      by-test true u later = low
      by-test false u later =
          first-or low (λ here. absurd (true≢false (sym e ∙ (ap test (sym here) ∙ u)))) (λ k. later k (omega arith) e)

  pub first-before : (n s t : ℕ) → s ≤ t → t < first_from test n s → test t ≡ false
  first-before n s t low h = by-test (test t) refl
    where
      by-test : (u : Bool) → test t ≡ u → u ≡ false
      by-test true e = absurd (omega (arith, first-most n s t low (omega (arith, first-high n s)) e))
      by-test false e = refl

  -- the one that passes is found
  pub first-only : (n s t : ℕ) → s ≤ t → t < s + n → test t ≡ true
      → ((u : ℕ) → s ≤ u → u < s + n → test u ≡ true → u ≡ t)
      → first_from test n s ≡ t
  first-only n s t low high e only =
      let most : first_from test n s ≤ t = first-most n s t low high e in
      only (first_from test n s) (first-low n s) (omega arith) (first_passes n s (omega arith))

  pub first-none : (n s : ℕ) → ((t : ℕ) → s ≤ t → t < s + n → test t ≡ false) → first_from test n s ≡ s + n
  first-none zero s none = omega arith
  first-none (suc n) s none =
      let z : suc s + n ≡ s + suc n = omega arith in
      rw (none s (omega arith) (omega arith))
      (first-none n (suc s) (λ t p q. none t (omega arith) (omega arith)) ∙ z)

  -- all pass where each does, and only there
  pub all-each : (n s : ℕ) → all_from test n s ≡ true → (t : ℕ) → s ≤ t → t < s + n → test t ≡ true
  all-each zero s e t low high = absurd (omega arith)
  all-each (suc n) s e t low high =
      first-or low (λ here. ap test (sym here) ∙ and_left (test s) (all_from test n (suc s)) e)
      (λ k. all-each n (suc s) (and_right (test s) (all_from test n (suc s)) e) t k (omega arith))

  pub each_all : (n s : ℕ) → ((t : ℕ) → s ≤ t → t < s + n → test t ≡ true) → all_from test n s ≡ true
  each_all zero s each = refl
  each_all (suc n) s each =
      rw (each s (omega arith) (omega arith)) (each_all n (suc s) (λ t p q. each t (omega arith) (omega arith)))

-- one more of a loop that goes up to `end`
module _ (test : ℕ → Bool) (end i : ℕ) where
  one_more : i < end → end - i ≡ suc (end - (i + 1))
  one_more h = omega arith

  pub first-go : i < end → test i ≡ false → first_from test (end - i) i ≡ first_from test (end - (i + 1)) (i + 1)
  first-go h e = rw (one_more h, e, add-one i)

  pub first-stop : i < end → test i ≡ true → first_from test (end - i) i ≡ i
  first-stop h e = rw (one_more h, e)

  pub first-end : end ≤ i → first_from test (end - i) i ≡ i
  first-end h = rw (let z : end - i ≡ 0 = omega arith in z)

  -- the same where what passed so far is gathered
  pub all_go : (ok : Bool) → i < end
      → ok && all_from test (end - i) i ≡ (ok && test i) && all_from test (end - (i + 1)) (i + 1)
  all_go ok h = rw (one_more h, add-one i) (sym (and_assoc ok (test i) (all_from test (end - suc i) (suc i))))

  pub all_end : (ok : Bool) → end ≤ i → ok && all_from test (end - i) i ≡ ok
  all_end ok h = rw (let z : end - i ≡ 0 = omega arith in z) (and-true ok)

-- tests that are the same find the same
module _ (test other : ℕ → Bool) where
  pub first-same : (n s : ℕ) → ((t : ℕ) → s ≤ t → t < s + n → test t ≡ other t)
      → first_from test n s ≡ first_from other n s
  first-same zero s each = refl
  first-same (suc n) s each =
      rw (each s (omega arith) (omega arith), first-same n (suc s) (λ t p q. each t (omega arith) (omega arith)))

  pub all_same : (n s : ℕ) → ((t : ℕ) → s ≤ t → t < s + n → test t ≡ other t)
      → all_from test n s ≡ all_from other n s
  all_same zero s each = refl
  all_same (suc n) s each =
      rw (each s (omega arith) (omega arith), all_same n (suc s) (λ t p q. each t (omega arith) (omega arith)))
