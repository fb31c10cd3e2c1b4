-- Laws of the next marked place: places without a mark are passed, and what it says once it is found.
-- Assumes nothing.
use Prim.Native.Nat.{ℕ, zero, suc, ◌+◌, ◌-◌, ◌/◌, ◌%◌, ◌^◌, ◌≤◌, ◌<◌}
use mathlib.Core.Path.{◌≡◌, refl, ap, ◌∙◌}
use mathlib.Core.Bool.{Bool, true, false, cond}
use mathlib.Core.List.{List}
use native.Mathlib.Omega.{arith}
use native.Mathlib.Nat.{div-add-mod', mod-lt, div-eq_of_lt, div-lt_iff_lt-mul, lt_of_lt_of_le, one-mul, pow-le-pow_right}
use borrow.Author.Tests.{ne_eqb, eqb-true, eqb-false}
use lib.Dec.{eqb}
use lib.ListN.{get_or}
use lib.Pow.{pow_pos}
use Rattle.bits.specs.Bits.{bits_from, passed_from, marked, first_marked, next_marked}

module _ (bits : List ℕ) where
  module _ (last i : ℕ) where
    pub next-end : last ≤ i → next_marked bits i last ≡ last
    unfolding next_marked
    next-end h = rw (let none : last - i ≡ 0 = omega arith in none)

    pub next_here : i < last → marked bits i ≡ true → next_marked bits i last ≡ i
    unfolding next_marked
    next_here h e = rw (let some : last - i ≡ suc (last - suc i) = omega arith in some) (rw e refl)

    pub next-on : marked bits i ≡ false → next_marked bits i last ≡ next_marked bits (suc i) last
    unfolding next_marked
    next-on e = by-test (last - i) refl
      where
        by-test : (k : ℕ) → last - i ≡ k → first_marked bits last (last - i) i ≡ first_marked bits last (last - suc i) (suc i)
        by-test zero h = rw (h, (let none : last - suc i ≡ 0 = omega arith in none))
        by-test (suc k) h = rw (h, (let same : last - suc i ≡ k = omega arith in same)) (rw e refl)

  -- places without a mark are passed
  pub next-pass : (last i k : ℕ) → ((o : ℕ) → i ≤ o → o < i + k → marked bits o ≡ false)
      → next_marked bits i last ≡ next_marked bits (i + k) last
  next-pass last i zero none = rw (let same : i + 0 ≡ i = omega arith in same)
  next-pass last i (suc k) none =
      next-on last i (none i (omega arith) (omega arith))
      ∙ (next-pass last (suc i) k (λ o p q. none o (omega arith) (omega arith))
      ∙ ap (λ j. next_marked bits j last) (omega arith))

  -- where no bit is left in a place's number, none of the places to the number's end is marked
  module _ (i o : ℕ) (low : i ≤ o) (high : o < i + (32 - i % 32)) where
    same_number : o / 32 ≡ i / 32
    same_number = omega (arith, div-add-mod' i 32, div-add-mod' o 32, mod-lt o {m = 32} (omega arith), mod-lt i {m = 32} (omega arith))

    higher : i % 32 ≤ o % 32
    higher = omega (arith, div-add-mod' i 32, div-add-mod' o 32, same_number)

    pub none_left : bits_from bits i ≡ 0 → marked bits o ≡ false
    unfolding marked
    none_left e =
        let w = get_or bits (i / 32) 0 in
        let small : w < 2 ^ (i % 32)
        = rw one-mul at ((div-lt_iff_lt-mul {k = 2 ^ (i % 32)} {x = w} {y = 1} (pow_pos (i % 32))).0 (omega (arith, e))) in
        let none : w / 2 ^ (o % 32) ≡ 0 = div-eq_of_lt (lt_of_lt_of_le small (pow-le-pow_right {n = 2} (omega arith) higher)) in
        rw (same_number, none)

  -- from a place that is not marked, so many are passed
  pub next-passed : (last i : ℕ) → (bits_from bits i % 2 ≡ 1 → ⊥)
      → next_marked bits i last ≡ next_marked bits (i + passed_from (bits_from bits i) i) last
  unfolding marked
  next-passed last i n = by-test (eqb (bits_from bits i) 0) refl
    where
      by-test : (t : Bool) → eqb (bits_from bits i) 0 ≡ t
          → next_marked bits i last ≡ next_marked bits (i + cond t (32 - i % 32) 1) last
      by-test true e = next-pass last i (32 - i % 32) (λ o p q. none_left i o p q (eqb-true _ 0 e))
      by-test false e = next-on last i (ne_eqb _ 1 n) ∙ ap (λ j. next_marked bits j last) (omega arith)

-- what the next one is: marked, unless it is the last, and none from the first on below it is
pub record Next (bits : List ℕ) (from last r : ℕ) : Type 0 where
  pub low : from ≤ r
  pub high : r ≤ last
  pub none : (o : ℕ) → from ≤ o → o < r → marked bits o ≡ false
  pub some : r < last → marked bits r ≡ true

module _ (bits : List ℕ) where
  one_less : (last k i : ℕ) → (t : Bool) → marked bits i ≡ t → i < last
      → Next bits (suc i) last (first_marked bits last k (suc i))
      → Next bits i last (cond t i (first_marked bits last k (suc i)))
  one_less last k i true m h next =
      record { low = omega arith; high = omega arith; none = λ o p q. absurd (omega arith); some = λ l. m }
  one_less last k i false m h next =
      record { low = omega arith; high = next.high; none = λ o p q. by-test o p q (eqb o i) refl; some = next.some }
    where
      by-test : (o : ℕ) → i ≤ o → o < first_marked bits last k (suc i) → (t : Bool) → eqb o i ≡ t → marked bits o ≡ false
      by-test o p q true e = rw (eqb-true o i e) m
      by-test o p q false e = next.none o (omega (arith, eqb-false o i e)) q

  first_is : (last k i : ℕ) → last ≡ i + k → Next bits i last (first_marked bits last k i)
  first_is last zero i e =
      record { low = omega arith; high = omega arith; none = λ o p q. absurd-none o p q; some = λ l. absurd (omega arith) }
    where
      absurd-none : (o : ℕ) → i ≤ o → o < last → marked bits o ≡ false
      absurd-none o p q = absurd (omega arith)
  first_is last (suc k) i e = one_less last k i (marked bits i) refl (omega arith) (first_is last k (suc i) (omega arith))

  pub next-is : (from last : ℕ) → from ≤ last → Next bits from last (next_marked bits from last)
  unfolding next_marked
  next-is from last h = first_is last (last - from) from (omega arith)
