-- Eight bytes of two slices compared as one number.
-- Assumes nothing.
use Prim.Native.Nat.{ℕ, ◌+◌, ◌-◌, ◌≤◌, ◌<◌}
use mathlib.Core.Path.{◌≡◌, refl, sym, ap, ap₂, ◌∙◌}
use mathlib.Core.Bool.{true, cond}
use mathlib.Core.List.{List, [], ◌∷◌, ◌++◌}
use native.Mathlib.Omega.{arith}
use borrow.Author.Tests.{lt-ltb, le-ltb, eq-eqb}
use lib.Dec.{ltb, eqb}
use lib.ListN.{length, drop, get_or, take-append-drop}
use lib.Seq.{drop-drop}
use Rattle.field.specs.Text.{part}
use Rattle.field_word.specs.Word.{weight, Bytes, Word, Weight}
use Rattle.field_word.proofs.Laws.{part-eight, same-words, lighter}
use Rattle.file_compare.specs.Order.{order, same, above}
use Rattle.file_compare.proofs.Laws.{order-step, order-end-same}
use Rattle.file_compare.proofs.Order.{by_bytes, first_below, first_above, first-same, below-above}

-- what both begin with decides nothing
pub order-behind : (p x y : List ℕ) → order (p ++ x) (p ++ y) ≡ order x y
order-behind [] x y = refl
order-behind (a ∷ p) x y = first-same a a (p ++ x) (p ++ y) refl ∙ order-behind p x y

-- of two fronts the lighter one is below
pub weight-below : (p q x y : List ℕ) → length p ≡ length q → Bytes p → Bytes q → weight p < weight q → order (p ++ x) (q ++ y) ≡ 1
weight-below [] [] x y e s t h = absurd (omega arith)
weight-below [] (b ∷ q) x y e s t h = absurd (omega arith)
weight-below (a ∷ p) [] x y e s t h = absurd (omega arith)
weight-below (a ∷ p) (b ∷ q) x y e s t h =
    let long : length p ≡ length q = omega arith in
    by_bytes a b
    (λ l. first_below a b (p ++ x) (q ++ y) l)
    (λ m.
    first-same a b (p ++ x) (q ++ y) m
    ∙ weight-below p q x y long s.1 t.1 (lighter-rest a b p q long m h))
    (λ g. absurd (omega (arith, lighter b a q p (sym long) t.1 g)))
  where
    lighter-rest : (c d : ℕ) (u v : List ℕ) → length u ≡ length v → c ≡ d → weight (c ∷ u) < weight (d ∷ v) → weight u < weight v
    lighter-rest c d u v k m l = omega (arith, rw (k, m) at l)

-- and the heavier one above
pub weight-above : (p q x y : List ℕ) → length p ≡ length q → Bytes p → Bytes q → weight q < weight p → order (p ++ x) (q ++ y) ≡ 2
weight-above p q x y e s t h = below-above (q ++ y) (p ++ x) (weight-below q p y x (sym e) t s h)

-- of fronts as long as each other the first that differ decide
pub order-join : (p q x y : List ℕ) → length p ≡ length q → order (p ++ x) (q ++ y) ≡ cond (eqb (order p q) 0) (order x y) (order p q)
order-join [] [] x y e = refl
order-join [] (b ∷ q) x y e = absurd (omega arith)
order-join (a ∷ p) [] x y e = absurd (omega arith)
order-join (a ∷ p) (b ∷ q) x y e =
    by_bytes a b
    (λ l. rw (first_below a b (p ++ x) (q ++ y) l, first_below a b p q l) refl)
    (λ m. rw (first-same a b (p ++ x) (q ++ y) m, first-same a b p q m) (order-join p q x y (omega arith)))
    (λ g. rw (first_above a b (p ++ x) (q ++ y) g, first_above a b p q g) refl)

pub weight-same : (p q : List ℕ) → length p ≡ length q → Bytes p → Bytes q → weight p ≡ weight q → p ≡ q
weight-same [] [] e s t h = refl
weight-same [] (b ∷ q) e s t h = absurd (omega arith)
weight-same (a ∷ p) [] e s t h = absurd (omega arith)
weight-same (a ∷ p) (b ∷ q) e s t h =
    let long : length p ≡ length q = omega arith in
    by_bytes a b
    (λ l. absurd (omega (arith, lighter a b p q long s.1 l)))
    (λ m. ap₂ ◌∷◌ m (weight-same p q long s.1 t.1 (same_rest a b p q long m h)))
    (λ g. absurd (omega (arith, lighter b a q p (sym long) t.1 g)))
  where
    same_rest : (c d : ℕ) (u v : List ℕ) → length u ≡ length v → c ≡ d → weight (c ∷ u) ≡ weight (d ∷ v) → weight u ≡ weight v
    same_rest c d u v k m l = omega (arith, rw (k, m) at l)

-- eight bytes from i on, and what is behind them
module _ (s : List ℕ) (i : ℕ) where
  pub eight-split : drop i s ≡ part s i (i + 8) ++ drop (i + 8) s
  eight-split =
      let eight : i + 8 - i ≡ 8 = omega arith in
      rw (eight, ← drop-drop 8 i s) (sym (take-append-drop 8 (drop i s)))

module _ (a b : List ℕ) (i : ℕ) (in_a : i + 8 ≤ length a) (in_b : i + 8 ≤ length b) where
  alike : length (part a i (i + 8)) ≡ length (part b i (i + 8))
  alike = part-eight a i in_a ∙ sym (part-eight b i in_b)

  same-part : part a i (i + 8) ≡ part b i (i + 8)
      → order (drop i a) (drop i b) ≡ order (drop (i + 8) a) (drop (i + 8) b)
  same-part e =
      rw (eight-split a i, eight-split b i, e) (order-behind (part b i (i + 8)) (drop (i + 8) a) (drop (i + 8) b))

  pub eight-same-on : (x y : ℕ) → Word (part a i (i + 8)) x → Word (part b i (i + 8)) y → x ≡ y
      → order (drop i a) (drop i b) ≡ order (drop (i + 8) a) (drop (i + 8) b)
  eight-same-on x y p q e =
      same-part (same-words _ _ alike p.small q.small (sym p.is ∙ (e ∙ q.is)))

  module _ (x y : ℕ) (p : Weight (part a i (i + 8)) x) (q : Weight (part b i (i + 8)) y) where
    pub eight-below : x < y → order (drop i a) (drop i b) ≡ 1
    eight-below h =
        rw (eight-split a i, eight-split b i)
        (weight-below (part a i (i + 8)) (part b i (i + 8)) (drop (i + 8) a) (drop (i + 8) b) alike p.small q.small
        (omega (arith, p.is, q.is)))

    pub eight-above : y < x → order (drop i a) (drop i b) ≡ 2
    eight-above h =
        rw (eight-split a i, eight-split b i)
        (below-above (part b i (i + 8) ++ drop (i + 8) b) (part a i (i + 8) ++ drop (i + 8) a)
        (weight-below (part b i (i + 8)) (part a i (i + 8)) (drop (i + 8) b) (drop (i + 8) a) (sym alike) q.small p.small
        (omega (arith, p.is, q.is))))

    pub eight-even : x ≡ y → order (drop i a) (drop i b) ≡ order (drop (i + 8) a) (drop (i + 8) b)
    eight-even e = same-part (weight-same _ _ alike p.small q.small (sym p.is ∙ (e ∙ q.is)))

    -- eight bytes that differ decide whether the one is above the other
    pub eight-decides : order a b ≡ order (drop i a) (drop i b) → (x ≡ y → ⊥) → ltb y x ≡ above a b
    eight-decides on other =
        by_bytes x y
        (λ h. le-ltb y x (omega arith) ∙ sym (ap (λ n. eqb n 2) (on ∙ eight-below h)))
        (λ e. absurd (other e))
        (λ h. lt-ltb y x h ∙ sym (ap (λ n. eqb n 2) (on ∙ eight-above h)))

-- forty bytes by eights, and one more
module _ (a b : List ℕ) (in_a : length a ≡ 41) (in_b : length b ≡ 41) where
  pub same-to-the-end : order a b ≡ order (drop 40 a) (drop 40 b) → get_or a 40 0 ≡ get_or b 40 0 → same a b ≡ true
  same-to-the-end on e =
      eq-eqb (order a b) 0
      (on
      ∙ (order-step a b 40 (omega arith) (omega arith) e
      ∙ order-end-same a b 41 (omega arith) (omega arith)))
