-- Laws of bytes compared.
-- Assumes nothing.
use Prim.Native.Nat.{ℕ, suc, ◌+◌, ◌-◌, ◌≤◌, ◌<◌}
use mathlib.Core.Path.{◌≡◌, refl, ap, ◌∙◌}
use mathlib.Core.Bool.{Bool, true, false, cond, not, ◌&&◌, ◌||◌}
use mathlib.Core.List.{List, [], ◌∷◌}
use native.Mathlib.Omega.{arith}
use native.Mathlib.Numerals.{add-one}
use borrow.Author.Tests.{lt-ltb, le-ltb, eq-eqb, ne_eqb}
use lib.Dec.{eqb}
use lib.ListN.{length, drop, get_or, drop_of_length-le}
use lib.Seq.{drop-cons}
use Rattle.field.proofs.Tests.{and-true, and-false}
use Rattle.file_compare.specs.Order.{order, same}
use Rattle.file_compare.proofs.Order.{by_bytes, first-same}

-- a byte that is the same in both, and none
pub order-step : (a b : List ℕ) (i : ℕ) → i < length a → i < length b → get_or a i 0 ≡ get_or b i 0
    → order (drop i a) (drop i b) ≡ order (drop (i + 1) a) (drop (i + 1) b)
order-step a b i in_a in_b e =
    rw (add-one, drop-cons a i 0 in_a, drop-cons b i 0 in_b) (first-same (get_or a i 0) (get_or b i 0) (drop (suc i) a) (drop (suc i) b) e)

pub order-end-same : (a b : List ℕ) (i : ℕ) → length a ≤ i → length b ≤ i → order (drop i a) (drop i b) ≡ 0
order-end-same a b i h k = simp (drop_of_length-le a h, drop_of_length-le b k)

-- a byte more of two that are the same
same-byte-step : (x y : ℕ) (xs ys : List ℕ) → same (x ∷ xs) (y ∷ ys) ≡ eqb x y && same xs ys
same-byte-step x y xs ys =
    by_bytes x y
    (λ h. simp (lt-ltb x y h, ne_eqb x y (λ z. omega arith)))
    (λ e. rw (eq-eqb x y e) (ap (λ n. eqb n 0) (first-same x y xs ys e)))
    (λ h. simp (le-ltb x y (omega arith), lt-ltb y x h, ne_eqb x y (λ z. omega arith)))

gathered : (other t rest : Bool) → not other && (t && rest) ≡ not (other || not t) && rest
gathered true t rest = refl
gathered false true rest = refl
gathered false false rest = refl

module _ (a b : List ℕ) (i : ℕ) (other : Bool) where
  pub same_more : i < length a → i < length b
      → not other && same (drop i a) (drop i b)
      ≡ not (other || not (eqb (get_or a i 0) (get_or b i 0))) && same (drop (i + 1) a) (drop (i + 1) b)
  same_more p q =
      rw (add-one, drop-cons a i 0 p, drop-cons b i 0 q)
      (rw (same-byte-step (get_or a i 0) (get_or b i 0) (drop (suc i) a) (drop (suc i) b))
      (gathered other (eqb (get_or a i 0) (get_or b i 0)) (same (drop (suc i) a) (drop (suc i) b))))

  pub same_end : length a ≤ i → length b ≤ i → not other && same (drop i a) (drop i b) ≡ not other
  same_end p q = rw (drop_of_length-le a p, drop_of_length-le b q) (and-true (not other))

pub other-lengths : (a b : List ℕ) → (length a ≡ length b → ⊥) → same a b ≡ false
other-lengths [] [] n = absurd (n refl)
other-lengths [] (y ∷ ys) n = refl
other-lengths (x ∷ xs) [] n = refl
other-lengths (x ∷ xs) (y ∷ ys) n =
    same-byte-step x y xs ys ∙ rw (other-lengths xs ys (λ e. n (omega arith))) (and-false (eqb x y))

-- a front by eights, from the last eight to the first
pub record FrontFrom (a b : List ℕ) (i n : ℕ) : Type 0 where
  pub at_most : n ≤ 40 - i
  pub decided : order (drop i a) (drop i b) ≡ order (drop (i + n) a) (drop (i + n) b)

pub front-none : (a b : List ℕ) (i : ℕ) → FrontFrom a b i 0
front-none a b i =
    let here : i + 0 ≡ i = omega arith in
    record { at_most = omega arith; decided = rw here refl }

pub front-more : (a b : List ℕ) (i n : ℕ) (same : Bool) → i + 8 ≤ 40
    → (same ≡ true → order (drop i a) (drop i b) ≡ order (drop (i + 8) a) (drop (i + 8) b))
    → FrontFrom a b (i + 8) n
    → FrontFrom a b i (cond same (8 + n) 0)
front-more a b i n true h eight f =
    let on : i + 8 + n ≡ i + (8 + n) = omega arith in
    record { at_most = omega (arith, f.at_most); decided = eight refl ∙ rw on at f.decided }
front-more a b i n false h eight f =
    let here : i + 0 ≡ i = omega arith in
    record { at_most = omega arith; decided = rw here refl }
