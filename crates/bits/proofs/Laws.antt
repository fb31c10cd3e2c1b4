-- Laws of bits: one is set, and each keeps its own.
-- Assumes nothing.
use Prim.Native.Nat.{ℕ, suc, ◌+◌, ◌*◌, ◌/◌, ◌%◌, ◌^◌, ◌-◌, ◌≤◌, ◌<◌, max}
use mathlib.Core.Path.{◌≡◌, refl, sym, ap, ◌∙◌}
use mathlib.Core.Bool.{Bool, true, false, ◌||◌}
use mathlib.Core.List.{List}
use native.Mathlib.Omega.{arith}
use native.Mathlib.Nat.{div_self, div-eq_of_lt, div-add-mod', mod-lt, mod-eq_of_lt, mul-div_right, mul-mod_right, one-mul, pow-succ'}
use lib.Arith.{digits_mod}
use lib.Bits.{bit_or, or_step, or_shr}
use lib.Dec.{eqb, ltb}
use lib.ListN.{length, get_or, set}
use lib.Pow.{pow_pos, pow-lt, pow-add}
use lib.Seq.{get_or-set_same, get_or-set_other}
use borrow.Author.Tests.{eqb-true, eqb-false, eq-eqb, ne_eqb, ltb-true, ltb-false}
use Rattle.field.proofs.Tests.{or-false}
use Rattle.bits.specs.Bits.{marked}

abbrev bit : ℕ → ℕ → ℕ
bit w k = w / 2 ^ k % 2

bit-low : (w k : ℕ) → bit w k < 2
bit-low w k = mod-lt (w / 2 ^ k) {m = 2} (omega arith)

-- bits are joined each by itself
or-odd : (a b : ℕ) → bit_or a b % 2 ≡ max (a % 2) (b % 2)
or-odd a b = ap (◌% 2) (or_step a b) ∙ digits_mod (bit_or (a / 2) (b / 2)) (omega (arith, bit-low a 0, bit-low b 0))

either : (x y : ℕ) → x < 2 → y < 2 → eqb (max x y) 1 ≡ eqb x 1 || eqb y 1
either x y h k = by-test (eqb x 1) refl
  where
    by-test : (t : Bool) → eqb x 1 ≡ t → eqb (max x y) 1 ≡ t || eqb y 1
    by-test true e = eq-eqb (max x y) 1 (omega (arith, eqb-true x 1 e))
    by-test false e = ap (λ z. eqb z 1) (let same : max x y ≡ y = omega (arith, eqb-false x 1 e) in same)

or-bit : (a b k : ℕ) → eqb (bit (bit_or a b) k) 1 ≡ eqb (bit a k) 1 || eqb (bit b k) 1
or-bit a b k =
    ap (λ x. eqb (x % 2) 1) (or_shr a b k) ∙ ap (λ x. eqb x 1) (or-odd (a / 2 ^ k) (b / 2 ^ k))
    ∙ either (bit a k) (bit b k) (bit-low a k) (bit-low b k)

-- a power of two has one bit
power-same : (k : ℕ) → bit (2 ^ k) k ≡ 1
power-same k = ap (◌% 2) (div_self (pow_pos k))

power-above : (j k : ℕ) → j < k → bit (2 ^ j) k ≡ 0
power-above j k h = ap (◌% 2) (div-eq_of_lt (pow-lt h))

power-times : (k m : ℕ) → bit (2 ^ (k + suc m)) k ≡ 0
power-times k m =
    ap (◌% 2) (ap (◌/ 2 ^ k) (pow-add 2 k (suc m)) ∙ mul-div_right (2 ^ suc m) (pow_pos k))
    ∙ (ap (◌% 2) (pow-succ' 2 m) ∙ mul-mod_right 2 (2 ^ m))

power_below : (j k : ℕ) → k < j → bit (2 ^ j) k ≡ 0
power_below j k h = rw (let sum : j ≡ k + suc (j - k - 1) = omega arith in sum) (power-times k (j - k - 1))

power-other : (j k : ℕ) → (j ≡ k → ⊥) → bit (2 ^ j) k ≡ 0
power-other j k n = by-test (ltb j k) refl
  where
    by-test : (t : Bool) → ltb j k ≡ t → bit (2 ^ j) k ≡ 0
    by-test true e = power-above j k (ltb-true j k e)
    by-test false e = power_below j k (omega (arith, ltb-false j k e, n))

power-bit : (j k : ℕ) → eqb (bit (2 ^ j) k) 1 ≡ eqb j k
power-bit j k = by-test (eqb j k) refl
  where
    by-test : (t : Bool) → eqb j k ≡ t → eqb (bit (2 ^ j) k) 1 ≡ t
    by-test true e = rw (eqb-true j k e) (eq-eqb (bit (2 ^ k) k) 1 (power-same k))
    by-test false e = ne_eqb (bit (2 ^ j) k) 1 (λ one. absurd (omega (arith, power-other j k (eqb-false j k e))))

-- two places in one number have the same bit where they are the same
same_place : (at o : ℕ) → at / 32 ≡ o / 32 → eqb (at % 32) (o % 32) ≡ eqb at o
same_place at o e = by-test (eqb at o) refl
  where
    by-test : (t : Bool) → eqb at o ≡ t → eqb (at % 32) (o % 32) ≡ t
    by-test true same = eq-eqb (at % 32) (o % 32) (ap (◌% 32) (eqb-true at o same))
    by-test false other =
        ne_eqb (at % 32) (o % 32)
        (λ low. eqb-false at o other (omega (arith, div-add-mod' at 32, div-add-mod' o 32)))

-- the bit of a place is set
module _ (marks : List ℕ) (at : ℕ) where
  abbrev word : ℕ
  word = bit_or (get_or marks (at / 32) 0) (1 * 2 ^ (at % 32) % 4_294_967_296)

  word-is : word ≡ bit_or (get_or marks (at / 32) 0) (2 ^ (at % 32))
  word-is =
      ap (bit_or (get_or marks (at / 32) 0))
      (ap (◌% 4_294_967_296) (one-mul (2 ^ (at % 32))) ∙ mod-eq_of_lt (pow-lt (mod-lt at {m = 32} (omega arith))))

  -- another place keeps its bit
  kept : (o : ℕ) → (at ≡ o → ⊥) → marked marks o ≡ marked marks o || eqb at o
  kept o n = rw (ne_eqb at o n) (sym (or-false (marked marks o)))

  pub mark_set : at / 32 < length marks → (o : ℕ) → marked (set marks (at / 32) word) o ≡ marked marks o || eqb at o
  unfolding marked
  mark_set h o = by-test (eqb (o / 32) (at / 32)) refl
    where
      by-test : (t : Bool) → eqb (o / 32) (at / 32) ≡ t
          → marked (set marks (at / 32) word) o ≡ marked marks o || eqb at o
      by-test true e =
          let same : o / 32 ≡ at / 32 = eqb-true (o / 32) (at / 32) e in
          let here : get_or (set marks (at / 32) word) (o / 32) 0 ≡ bit_or (get_or marks (o / 32) 0) (2 ^ (at % 32))
          = rw same (get_or-set_same marks (at / 32) word 0 h ∙ word-is) in
          ap (λ w. eqb (bit w (o % 32)) 1) here
          ∙ (or-bit (get_or marks (o / 32) 0) (2 ^ (at % 32)) (o % 32)
          ∙ ap (marked marks o ||◌) (power-bit (at % 32) (o % 32) ∙ same_place at o (sym same)))
      by-test false e =
          let other = eqb-false (o / 32) (at / 32) e in
          ap (λ w. eqb (bit w (o % 32)) 1) (get_or-set_other marks (at / 32) (o / 32) word 0 other)
          ∙ kept o (λ same. other (ap (◌/ 32) (sym same)))

  pub mark-none : length marks ≤ at / 32 → (o : ℕ) → o / 32 < length marks → marked marks o ≡ marked marks o || eqb at o
  mark-none h o l = kept o (λ e. let same = ap (◌/ 32) e in absurd (omega arith))
