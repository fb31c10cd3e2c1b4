-- Laws of the k-th of some addresses.
-- Assumes nothing.
use Prim.Native.Nat.{ℕ, zero, suc, ◌-◌, ◌≤◌}
use mathlib.Core.Path.{◌≡◌, refl, subst}
use mathlib.Core.List.{List, [], ◌∷◌}
use mathlib.Core.Option.{none, some}
use native.Mathlib.Omega.{arith}
use native.Mathlib.Numerals.{unary_clauses}
use lib.ListN.{length, get_or}
use Rattle.source.specs.Address.{Address}
use Rattle.source.specs.Same.{AllOf}
use Rattle.ask.specs.Labels.{kth}

none-some : {A : Type 0} (a : Address) → none ≡ some a → A
none-some a e = let z : ◌≡◌ {A = ℕ} 0 1 = cc in absurd (omega arith)

pub kth-zero : (addresses : List Address) → kth addresses 0 ≡ none
kth-zero [] = refl
kth-zero (a ∷ more) = refl

pub kth-none : (addresses : List Address) (j : ℕ) → length addresses ≤ j → kth addresses (suc j) ≡ none
kth-none [] j h = refl
kth-none (a ∷ more) zero h = absurd (omega arith)
kth-none (a ∷ more) (suc j) h = kth-none more j (omega arith)

pub kth-at : (addresses : List Address) (k : ℕ) (d : Address) → 1 ≤ k → k ≤ length addresses
    → kth addresses k ≡ some (get_or addresses (k - 1) d)
kth-at [] k d p h = absurd (omega arith)
kth-at (a ∷ more) zero d p h = absurd (omega arith)
kth-at (a ∷ more) (suc zero) d p h = refl
kth-at (a ∷ more) (suc (suc k)) d p h = simp unary_clauses (simp unary_clauses at (kth-at more (suc k) d (omega arith) (omega arith)))

-- the one that is found has a number among theirs, and is one of them
pub kth-within : (addresses : List Address) (k : ℕ) (a : Address) → kth addresses k ≡ some a
    → (1 ≤ k) × (k ≤ length addresses)
kth-within [] k a e = none-some a e
kth-within (b ∷ more) zero a e = none-some a e
kth-within (b ∷ more) (suc zero) a e = (omega arith, omega arith)
kth-within (b ∷ more) (suc (suc k)) a e = let r = kth-within more (suc k) a e in (omega arith, omega (arith, r.1))

pub kth-all : (P : Address → Type 0) (addresses : List Address) (k : ℕ) (a : Address) → AllOf P addresses
    → kth addresses k ≡ some a
    → P a
kth-all P [] k a h e = none-some a e
kth-all P (b ∷ more) zero a h e = none-some a e
kth-all P (b ∷ more) (suc zero) a h e = subst P (cc) h.0
kth-all P (b ∷ more) (suc (suc k)) a h e = kth-all P more (suc k) a h.1 e
