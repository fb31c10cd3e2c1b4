-- A definition that the checker computes over a run of numbers, read at one of them; and the keys of a `match` as a test.
-- Assumes nothing.
use Prim.Native.Nat.{ℕ, zero, suc, ◌+◌, ◌≤◌, ◌<◌}
use mathlib.Core.Path.{◌≡◌, refl, sym, ap, ◌∙◌}
use mathlib.Core.Bool.{true, false, cond}
use mathlib.Core.List.{List, [], ◌∷◌, map}
use mathlib.Core.Logic.{inl, inr, ⊎_elim}
use native.Mathlib.Omega.{arith}
use native.Mathlib.Nat.{eq-or-lt_of_le}
use borrow.Author.Tests.{eq-eqb, ne_eqb}
use types.Run.{OneOf}
use lib.Dec.{eqb}
use lib.ListN.{replicate}
use Rattle.field.specs.Test.{elem}
use Rattle.field.proofs.Tests.{or-true}

-- n numbers from lo
abbrev pub numbers : ℕ → ℕ → List ℕ
numbers lo zero = []
numbers lo (suc n) = lo ∷ numbers (suc lo) n

module _ {A : Type 0} where
  heads : {x y : A} {xs ys : List A} → x ∷ xs ≡ y ∷ ys → x ≡ y
  heads e = cc

  tails : {x y : A} {xs ys : List A} → x ∷ xs ≡ y ∷ ys → xs ≡ ys
  tails e = cc

  -- what gives v at each number of a run gives v at b
  pub run_at : (f : ℕ → A) (v : A) (lo n : ℕ) → map f (numbers lo n) ≡ replicate n v → (b : ℕ) → lo ≤ b → b < lo + n
      → f b ≡ v
  run_at f v lo zero e b p q = absurd (omega arith)
  run_at f v lo (suc n) e b p q =
      ⊎_elim (λ (h : lo ≡ b). ap f (sym h) ∙ heads e)
      (λ (h : suc lo ≤ b). run_at f v (suc lo) n (tails e) b h (omega arith)) (eq-or-lt_of_le p)

  -- the same where one number of the run does not count
  pub run-but : (f : ℕ → A) (v : A) (k lo n : ℕ) → map (λ b. cond (eqb b k) v (f b)) (numbers lo n) ≡ replicate n v
      → (b : ℕ)
      → lo ≤ b
      → b < lo + n
      → (b ≡ k → ⊥)
      → f b ≡ v
  run-but f v k lo n e b p q h = simp (ne_eqb b k h) at (run_at (λ b. cond (eqb b k) v (f b)) v lo n e b p q)

-- a byte that is one of an arm's keys
pub one_of : (keys : List ℕ) (b : ℕ) → OneOf keys b → elem b keys ≡ true
one_of [] b h = absurd h
one_of (k ∷ []) b h = simp (eq-eqb b k h)
one_of (k ∷ k' ∷ ks) b (inl e) = simp (eq-eqb b k e)
one_of (k ∷ k' ∷ ks) b (inr later) = rw (one_of (k' ∷ ks) b later) (or-true (eqb b k))

-- and one that is none of them
pub none_of : (keys : List ℕ) (b : ℕ) → (OneOf keys b → ⊥) → elem b keys ≡ false
none_of [] b h = refl
none_of (k ∷ []) b h = simp (ne_eqb b k h)
none_of (k ∷ k' ∷ ks) b h = simp (ne_eqb b k (λ e. h (inl e))) (none_of (k' ∷ ks) b (λ later. h (inr later)))
