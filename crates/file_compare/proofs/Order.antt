-- Laws of bytes compared: an order of all lists of bytes.
-- Assumes nothing.
use Prim.Native.Nat.{ℕ, zero, suc, ◌≤◌, ◌<◌}
use mathlib.Core.Path.{◌≡◌, refl, sym, ap₂, ◌∙◌}
use mathlib.Core.Bool.{Bool, true, false}
use mathlib.Core.List.{List, [], ◌∷◌}
use native.Mathlib.Omega.{arith}
use native.Mathlib.Nat.{le_of_lt, le_of_eq, le_antisymm}
use borrow.Author.Tests.{lt-ltb, le-ltb, ltb-true, ltb-false, eq-eqb, ne_eqb, eqb-true, eqb-false}
use lib.Dec.{ltb, eqb}
use lib.ListN.{take}
use Rattle.file_compare.specs.Order.{order, above}

-- the three ways in which two bytes stand
pub by_bytes : {P : Type 0} (x y : ℕ) → (x < y → P) → (x ≡ y → P) → (y < x → P) → P
by_bytes {P} x y below equal over = by_tests (ltb x y) (ltb y x) refl refl
  where
    by_tests : (s t : Bool) → ltb x y ≡ s → ltb y x ≡ t → P
    by_tests true t h k = below (ltb-true x y h)
    by_tests false true h k = over (ltb-true y x k)
    by_tests false false h k = equal (le_antisymm (ltb-false y x k) (ltb-false x y h))

-- lists by their first bytes
module _ (x y : ℕ) (a b : List ℕ) where
  pub first_below : x < y → order (x ∷ a) (y ∷ b) ≡ 1
  first_below h = simp (lt-ltb x y h)

  pub first_above : y < x → order (x ∷ a) (y ∷ b) ≡ 2
  first_above h = simp (le-ltb x y (le_of_lt h), lt-ltb y x h)

  pub first-same : x ≡ y → order (x ∷ a) (y ∷ b) ≡ order a b
  first-same h = simp (le-ltb x y (le_of_eq (sym h)), le-ltb y x (le_of_eq h))

pub order_same : (a : List ℕ) → order a a ≡ 0
order_same [] = refl
order_same (x ∷ a) = first-same x x a a refl ∙ order_same a

pub order-equal : (a b : List ℕ) → order a b ≡ 0 → a ≡ b
order-equal [] [] h = refl
order-equal [] (y ∷ b) h = absurd (omega arith)
order-equal (x ∷ a) [] h = absurd (omega arith)
order-equal (x ∷ a) (y ∷ b) h =
    by_bytes x y
    (λ l. absurd (omega (arith, first_below x y a b l)))
    (λ e. ap₂ ◌∷◌ e (order-equal a b (sym (first-same x y a b e) ∙ h)))
    (λ g. absurd (omega (arith, first_above x y a b g)))

pub below-above : (a b : List ℕ) → order a b ≡ 1 → order b a ≡ 2
below-above [] [] h = absurd (omega arith)
below-above [] (y ∷ b) h = refl
below-above (x ∷ a) [] h = absurd (omega arith)
below-above (x ∷ a) (y ∷ b) h =
    by_bytes x y
    (λ l. first_above y x b a l)
    (λ e. first-same y x b a (sym e) ∙ below-above a b (sym (first-same x y a b e) ∙ h))
    (λ g. absurd (omega (arith, first_above x y a b g)))

pub above-below : (a b : List ℕ) → order a b ≡ 2 → order b a ≡ 1
above-below [] [] h = absurd (omega arith)
above-below [] (y ∷ b) h = absurd (omega arith)
above-below (x ∷ a) [] h = refl
above-below (x ∷ a) (y ∷ b) h =
    by_bytes x y
    (λ l. absurd (omega (arith, first_below x y a b l)))
    (λ e. first-same y x b a (sym e) ∙ above-below a b (sym (first-same x y a b e) ∙ h))
    (λ g. first_below y x b a g)

-- what is below by its front is below by a longer one
pub front_below : (m n : ℕ) (a b : List ℕ) → m ≤ n → order (take m a) (take m b) ≡ 1 → order (take n a) (take n b) ≡ 1
front_below zero n a b h e = absurd (omega arith)
front_below (suc m) zero a b h e = absurd (omega arith)
front_below (suc m) (suc n) [] [] h e = absurd (omega arith)
front_below (suc m) (suc n) [] (y ∷ b) h e = refl
front_below (suc m) (suc n) (x ∷ a) [] h e = absurd (omega arith)
front_below (suc m) (suc n) (x ∷ a) (y ∷ b) h e =
    by_bytes x y
    (λ l. first_below x y (take n a) (take n b) l)
    (λ q.
    first-same x y (take n a) (take n b) q
    ∙ front_below m n a b (omega arith) (sym (first-same x y (take m a) (take m b) q) ∙ e))
    (λ g. absurd (omega (arith, first_above x y (take m a) (take m b) g)))

pub order-bound : (a b : List ℕ) → order a b ≤ 2
order-bound [] [] = omega arith
order-bound [] (y ∷ b) = omega arith
order-bound (x ∷ a) [] = omega arith
order-bound (x ∷ a) (y ∷ b) =
    by_bytes x y
    (λ l. omega (arith, first_below x y a b l))
    (λ e. omega (arith, first-same x y a b e, order-bound a b))
    (λ g. omega (arith, first_above x y a b g))

-- not above, twice
pub not-above : (a b c : List ℕ) → (order a b ≡ 2 → ⊥) → (order b c ≡ 2 → ⊥) → order a c ≡ 2 → ⊥
not-above [] b [] f g h = omega arith
not-above [] b (z ∷ c) f g h = omega arith
not-above (x ∷ a) [] c f g h = f refl
not-above (x ∷ a) (y ∷ b) [] f g h = g refl
not-above (x ∷ a) (y ∷ b) (z ∷ c) f g h =
    let lower : x < z → ⊥ = λ l. omega (arith, first_below x z a c l) in
    let higher : z < y → ⊥ = λ l. g (first_above y z b c l) in
    let equal : x ≡ y → y ≡ z → ⊥ =
    λ l m.
    not-above a b c (λ k. f (first-same x y a b l ∙ k)) (λ k. g (first-same y z b c m ∙ k))
    (sym (first-same x z a c (l ∙ m)) ∙ h) in
    by_bytes x y
    (λ l. by_bytes y z (λ m. lower (omega arith)) (λ m. lower (omega arith)) higher)
    (λ l. by_bytes y z (λ m. lower (omega arith)) (λ m. equal l m) higher)
    (λ l. f (first_above x y a b l))

-- what cannot differ from 2 is 2
is-two : (n : ℕ) → ((n ≡ 2 → ⊥) → ⊥) → n ≡ 2
is-two n f = by-test (eqb n 2) refl
  where
    by-test : (t : Bool) → eqb n 2 ≡ t → n ≡ 2
    by-test true e = eqb-true n 2 e
    by-test false e = absurd (f (eqb-false n 2 e))

-- what is above c is not above b: then b is above c
pub above-not : (a b c : List ℕ) → order a c ≡ 2 → (order a b ≡ 2 → ⊥) → order b c ≡ 2
above-not a b c f g = is-two (order b c) (λ n. not-above a b c g n f)

pub above-yes : (a b : List ℕ) → order a b ≡ 2 → above a b ≡ true
above-yes a b h = eq-eqb (order a b) 2 h

pub above-no : (a b : List ℕ) → (order a b ≡ 2 → ⊥) → above a b ≡ false
above-no a b h = ne_eqb (order a b) 2 h
