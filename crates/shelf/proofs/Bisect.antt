-- Laws of the search by halves.
-- Assumes nothing.
use Prim.Native.Nat.{ℕ, zero, suc, ◌-◌, ◌≤◌, ◌<◌}
use mathlib.Core.Path.{◌≡◌, refl, sym, subst, ◌∙◌}
use mathlib.Core.Bool.{Bool, true, false, cond, true≢false}
use native.Mathlib.Omega.{arith}
use native.Mathlib.Nat.{le_refl}
use borrow.Author.Tests.{lt-ltb, le-ltb, ltb-true, ltb-false}
use lib.Dec.{ltb}
use Rattle.shelf.specs.Search.{middle, bisect}

module _ (ok : ℕ → Bool) where
  -- nothing to search
  pub bisect-end : (fuel low high : ℕ) → high ≤ low → bisect ok fuel low high ≡ low
  bisect-end zero low high h = refl
  bisect-end (suc fuel) low high h = simp (le-ltb low high h)

  bisect-step : (fuel low high : ℕ) → low < high
      → bisect ok (suc fuel) low high
      ≡ cond (ok (middle low high)) (bisect ok fuel low (middle low high)) (bisect ok fuel (suc (middle low high)) high)
  bisect-step fuel low high h = simp (lt-ltb low high h)

  -- any fuel that reaches is enough
  pub bisect-fuel : (fuel more low high : ℕ) → high - low ≤ fuel → high - low ≤ more
      → bisect ok fuel low high ≡ bisect ok more low high
  bisect-fuel zero more low high h k = sym (bisect-end more low high (omega arith))
  bisect-fuel (suc fuel) zero low high h k = bisect-end (suc fuel) low high (omega arith)
  bisect-fuel (suc fuel) (suc more) low high h k =
      by-test (ltb low high) refl
      (λ m l. bisect-fuel fuel more low m (omega arith) (omega arith))
      (λ m l. bisect-fuel fuel more (suc m) high (omega arith) (omega arith))
    where
      by-half : (m : ℕ) (t : Bool) → bisect ok fuel low m ≡ bisect ok more low m
          → bisect ok fuel (suc m) high ≡ bisect ok more (suc m) high
          → cond t (bisect ok fuel low m) (bisect ok fuel (suc m) high)
          ≡ cond t (bisect ok more low m) (bisect ok more (suc m) high)
      by-half m true p q = p
      by-half m false p q = q

      by-test : (t : Bool) → ltb low high ≡ t
          → ((m : ℕ) → (low ≤ m) × (m < high) → bisect ok fuel low m ≡ bisect ok more low m)
          → ((m : ℕ) → (low ≤ m) × (m < high) → bisect ok fuel (suc m) high ≡ bisect ok more (suc m) high)
          → bisect ok (suc fuel) low high ≡ bisect ok (suc more) low high
      by-test true e p q =
          let l = ltb-true low high e in
          let m = middle low high in
          bisect-step fuel low high l
          ∙ (by-half m (ok m) (p m (omega arith, omega arith)) (q m (omega arith, omega arith))
          ∙ sym (bisect-step more low high l))
      by-test false e p q =
          let l = ltb-false low high e in
          bisect-end (suc fuel) low high l ∙ sym (bisect-end (suc more) low high l)

  -- one turn of the search, with the fuel that it needs
  module _ (low high : ℕ) (l : low < high) where
    half : (fuel : ℕ) → high - low ≤ suc fuel
        → bisect ok (high - low) low high
        ≡ cond (ok (middle low high)) (bisect ok fuel low (middle low high))
        (bisect ok fuel (suc (middle low high)) high)
    half fuel h = bisect-fuel (high - low) (suc fuel) low high (le_refl _) h ∙ bisect-step fuel low high l

    pub bisect-low : ok (middle low high) ≡ true
        → bisect ok (high - low) low high ≡ bisect ok (middle low high - low) low (middle low high)
    bisect-low e =
        half (high - low) (omega arith)
        ∙ simp e (bisect-fuel (high - low) (middle low high - low) low (middle low high) (omega arith) (le_refl _))

    pub bisect-high : ok (middle low high) ≡ false
        → bisect ok (high - low) low high ≡ bisect ok (high - suc (middle low high)) (suc (middle low high)) high
    bisect-high e =
        let m = suc (middle low high) in
        half (high - low) (omega arith) ∙ simp e (bisect-fuel (high - low) (high - m) m high (omega arith) (le_refl _))

-- the answer is no further than the end of what is searched
pub bisect-to : (ok : ℕ → Bool) (fuel low high : ℕ) → low ≤ high → bisect ok fuel low high ≤ high
bisect-to ok zero low high o = o
bisect-to ok (suc fuel) low high o =
    by_tests (ltb low high) (ok (middle low high)) refl
    (λ h. bisect-to ok fuel low (middle low high) (omega arith))
    (λ h. bisect-to ok fuel (suc (middle low high)) high (omega arith))
  where
    by_tests : (t u : Bool) → ltb low high ≡ t
        → (low < high → bisect ok fuel low (middle low high) ≤ middle low high)
        → (low < high → bisect ok fuel (suc (middle low high)) high ≤ high)
        → cond t (cond u (bisect ok fuel low (middle low high)) (bisect ok fuel (suc (middle low high)) high)) low ≤ high
    by_tests true true e below above = let h = ltb-true low high e in omega (arith, below h)
    by_tests true false e below above = above (ltb-true low high e)
    by_tests false u e below above = o

-- the least place that passes, all from there on passing
pub record Least (ok : ℕ → Bool) (low high r : ℕ) : Type 0 where
  pub from : low ≤ r
  pub to : r ≤ high
  pub fails : (j : ℕ) → low ≤ j → j < r → ok j ≡ false
  pub passes : (j : ℕ) → r ≤ j → j < high → ok j ≡ true

-- once true, true up to high
abbrev pub Stays : (ℕ → Bool) → ℕ → ℕ → Type 0
Stays ok low high = (i j : ℕ) → low ≤ i → i ≤ j → j < high → ok i ≡ true → ok j ≡ true

module _ (ok : ℕ → Bool) (low high m : ℕ) (from : low ≤ m) (to : m < high) (stays : Stays ok low high) where
  least-low : (r : ℕ) → ok m ≡ true → Least ok low m r → Least ok low high r
  least-low r e least =
      record {
        from = least.from;
        to = omega (arith, least.to);
        fails = least.fails;
        passes = λ j h k. by-test j h k (ltb j m) refl;
      }
    where
      by-test : (j : ℕ) → r ≤ j → j < high → (t : Bool) → ltb j m ≡ t → ok j ≡ true
      by-test j h k true t = least.passes j h (ltb-true j m t)
      by-test j h k false t = stays m j from (ltb-false j m t) k e

  least-high : (r : ℕ) → ok m ≡ false → Least ok (suc m) high r → Least ok low high r
  least-high r e least =
      record {
        from = omega (arith, least.from);
        to = least.to;
        fails = λ j h k. by-test j h k (ltb m j) refl;
        passes = least.passes;
      }
    where
      by_value : (j : ℕ) → low ≤ j → j ≤ m → (t : Bool) → ok j ≡ t → ok j ≡ false
      by_value j h k true t = absurd (true≢false (sym (stays j m h k to t) ∙ e))
      by_value j h k false t = t

      by-test : (j : ℕ) → low ≤ j → j < r → (t : Bool) → ltb m j ≡ t → ok j ≡ false
      by-test j h k true t = least.fails j (ltb-true m j t) k
      by-test j h k false t = by_value j h (ltb-false m j t) (ok j) refl

least-end : (ok : ℕ → Bool) (low high : ℕ) → low ≡ high → Least ok low high low
least-end ok low high e =
    record {
      from = le_refl low;
      to = omega arith;
      fails = λ j h k. absurd (omega arith);
      passes = λ j h k. absurd (omega arith);
    }

-- on a test that stays true, the search gives the least place that passes
pub bisect-least : (ok : ℕ → Bool) (fuel low high : ℕ) → low ≤ high → high - low ≤ fuel → Stays ok low high
    → Least ok low high (bisect ok fuel low high)
bisect-least ok zero low high o h stays = least-end ok low high (omega arith)
bisect-least ok (suc fuel) low high o h stays =
    by-test (ltb low high) refl
    (λ m from to. bisect-least ok fuel low m from (omega arith) (λ i j a b k. stays i j a b (omega arith)))
    (λ m from to. bisect-least ok fuel (suc m) high to (omega arith) (λ i j a b k. stays i j (omega arith) b k))
  where
    by-half : (m : ℕ) → low ≤ m → m < high → (t : Bool) → ok m ≡ t
        → Least ok low m (bisect ok fuel low m)
        → Least ok (suc m) high (bisect ok fuel (suc m) high)
        → Least ok low high (cond t (bisect ok fuel low m) (bisect ok fuel (suc m) high))
    by-half m from to true e p q = least-low ok low high m from to stays _ e p
    by-half m from to false e p q = least-high ok low high m from to stays _ e q

    by-test : (t : Bool) → ltb low high ≡ t
        → ((m : ℕ) → low ≤ m → m < high → Least ok low m (bisect ok fuel low m))
        → ((m : ℕ) → low ≤ m → m < high → Least ok (suc m) high (bisect ok fuel (suc m) high))
        → Least ok low high (bisect ok (suc fuel) low high)
    by-test true e p q =
        let l = ltb-true low high e in
        let m = middle low high in
        let from : low ≤ m = omega arith in
        let to : m < high = omega arith in
        subst (λ (r : ℕ). Least ok low high r) (sym (bisect-step ok fuel low high l))
        (by-half m from to (ok m) refl (p m from to) (q m from to))
    by-test false e p q =
        let l = ltb-false low high e in
        subst (λ (r : ℕ). Least ok low high r) (sym (bisect-end ok (suc fuel) low high l))
        (least-end ok low high (omega arith))

-- tests that agree where it is searched give the same place
pub bisect-as : (ok other : ℕ → Bool) (fuel low high : ℕ) → ((i : ℕ) → low ≤ i → i < high → ok i ≡ other i)
    → bisect ok fuel low high ≡ bisect other fuel low high
bisect-as ok other zero low high h = refl
bisect-as ok other (suc fuel) low high h =
    by-test (ltb low high) refl
    (λ m from to. bisect-as ok other fuel low m (λ i a b. h i a (omega arith)))
    (λ m from to. bisect-as ok other fuel (suc m) high (λ i a b. h i (omega arith) b))
  where
    by-test : (t : Bool) → ltb low high ≡ t
        → ((m : ℕ) → low ≤ m → m < high → bisect ok fuel low m ≡ bisect other fuel low m)
        → ((m : ℕ) → low ≤ m → m < high → bisect ok fuel (suc m) high ≡ bisect other fuel (suc m) high)
        → bisect ok (suc fuel) low high ≡ bisect other (suc fuel) low high
    by-test true e p q =
        let l = ltb-true low high e in
        let m = middle low high in
        let from : low ≤ m = omega arith in
        let to : m < high = omega arith in
        simp (lt-ltb low high l, h m from to, p m from to, q m from to)
    by-test false e p q =
        let l = ltb-false low high e in
        bisect-end ok (suc fuel) low high l ∙ sym (bisect-end other (suc fuel) low high l)
