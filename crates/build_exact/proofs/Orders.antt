-- Two rising lists with the same members are equal.
-- Assumes nothing.
use Prim.Native.Nat.{ℕ, ◌≤◌, ◌<◌}
use mathlib.Core.Path.{◌≡◌, refl, sym, ap, ap₂, subst, ◌∙◌}
use mathlib.Core.Bool.{Bool, true, false, true≢false, ◌||◌}
use mathlib.Core.List.{List, [], ◌∷◌}
use native.Mathlib.Omega.{arith}
use borrow.Author.Tests.{eq-eqb, ne_eqb, eqb-true}
use lib.Dec.{eqb}
use Rattle.field.specs.Test.{elem}
use Rattle.field.proofs.Tests.{or-true}
use Rattle.pack_carries.specs.Used.{Rises}

rises-above : (low r : ℕ) (xs : List ℕ) → Rises low xs → elem r xs ≡ true → low < r
rises-above low r [] h e = let z : ◌≡◌ {A = ℕ} 0 1 = cc in absurd (omega arith)
rises-above low r (x ∷ xs) h e = by-test (eqb r x) refl e (rises-above x r xs h.1)
  where
    by-test : (t : Bool) → eqb r x ≡ t → t || elem r xs ≡ true → (elem r xs ≡ true → x < r) → low < r
    by-test true q e behind = omega (arith, eqb-true r x q, h.0)
    by-test false q e behind = omega (arith, h.0, behind e)

-- what is in the list, and is not its first, is behind it
elem-behind : (r x : ℕ) (xs : List ℕ) → (r ≡ x → ⊥) → elem r (x ∷ xs) ≡ true → elem r xs ≡ true
elem-behind r x xs n e = rw (ne_eqb r x n) at e

elem-first : (x : ℕ) (xs : List ℕ) → elem x (x ∷ xs) ≡ true
elem-first x xs = rw (eq-eqb x x refl)

pub or_left : (s t : Bool) → s ≡ true → s || t ≡ true
or_left s t e = ap (λ b. b || t) e

pub or_right : (s t : Bool) → t ≡ true → s || t ≡ true
or_right s t e = ap (λ b. s || b) e ∙ or-true s

abbrev Within : List ℕ → List ℕ → Type 0
Within xs ys = (r : ℕ) → elem r xs ≡ true → elem r ys ≡ true

-- of lists with the same members, what is behind has the same members
within-behind : (x : ℕ) (xs ys : List ℕ) → Rises x xs → Within (x ∷ xs) (x ∷ ys) → Within xs ys
within-behind x xs ys h w r e =
    elem-behind r x ys (λ q. omega (arith, rises-above x r xs h e)) (w r (or_right (eqb r x) (elem r xs) e))

-- the first of a rising list is the lowest
first-lowest : (low x y : ℕ) (xs ys : List ℕ) → Rises low (x ∷ xs) → Within (y ∷ ys) (x ∷ xs) → x ≤ y
first-lowest low x y xs ys h w = by-test (eqb y x) refl (w y (elem-first y ys))
  where
    by-test : (t : Bool) → eqb y x ≡ t → t || elem y xs ≡ true → x ≤ y
    by-test true q e = omega (arith, eqb-true y x q)
    by-test false q e = omega (arith, rises-above x y xs h.1 e)

no_member : (x : ℕ) (xs : List ℕ) → Within (x ∷ xs) [] → ⊥
no_member x xs w = true≢false (sym (w x (elem-first x xs)))

pub rises-same : (low other : ℕ) (xs ys : List ℕ) → Rises low xs → Rises other ys → Within xs ys → Within ys xs
    → xs ≡ ys
rises-same low other [] [] h k v w = refl
rises-same low other [] (y ∷ ys) h k v w = absurd (no_member y ys w)
rises-same low other (x ∷ xs) [] h k v w = absurd (no_member x xs v)
rises-same low other (x ∷ xs) (y ∷ ys) h k v w =
    let is : y ≡ x = omega (arith, first-lowest low x y xs ys h w, first-lowest other y x ys xs k v) in
    let behind = subst (λ n. Rises n ys) is k.1 in
    ap₂ ◌∷◌ (sym is)
    (rises-same x x xs ys h.1 behind
    (within-behind x xs ys h.1 (subst (λ n. Within (x ∷ xs) (n ∷ ys)) is v))
    (within-behind x ys xs behind (subst (λ n. Within (n ∷ ys) (x ∷ xs)) is w)))
