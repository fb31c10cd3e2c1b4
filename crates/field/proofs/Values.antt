-- Laws of the value of a numeric field.
-- Assumes nothing.
use Prim.Native.Nat.{ℕ, zero, suc, ◌+◌, ◌-◌, ◌*◌, ◌^◌, ◌≤◌, ◌<◌}
use mathlib.Core.Path.{◌≡◌, refl, sym, ap, ◌∙◌}
use mathlib.Core.Bool.{Bool, true, false, cond, ◌&&◌}
use mathlib.Core.List.{List, [], ◌∷◌}
use native.Mathlib.Omega.{arith}
use native.Mathlib.Numerals.{add-one}
use native.Mathlib.Nat.{add_assoc, mul_comm, mul_assoc, add-mul, suc-mul, mul-le-mul_right, lt_of_lt_of_le, pow-zero, pow-suc, pow-le-pow_right}
use borrow.Author.Tests.{ne_eqb}
use lib.Dec.{lit<, eqb}
use lib.Pow.{pow-add}
use lib.ListN.{length, take, drop, get_or, drop_of_length-le}
use lib.Seq.{drop-cons, take_all}
use Rattle.field.specs.Digits.{digit, digit_value, zero_digit, value_from, value}
use Rattle.field.specs.Test.{every}
use Rattle.field.proofs.Tests.{range-low, range-high}

pub digit-to-9 : (b : ℕ) → digit_value b ≤ 9
unfolding digit_value
digit-to-9 b = by-test (digit b) refl
  where
    by-test : (t : Bool) → digit b ≡ t → cond t (b - 48) 0 ≤ 9
    by-test true e = omega (arith, range-high 48 57 b e)
    by-test false e = omega arith

-- the digit that a byte is
pub digit-again : (x : ℕ) → digit x ≡ true → 48 + digit_value x ≡ x
unfolding digit_value
digit-again x e = simp e (omega (arith, range-low 48 57 x e))

pub value-step : (s : List ℕ) (v i : ℕ) → i < length s
    → value_from v (drop i s) ≡ value_from (v * 10 + digit_value (get_or s i 0)) (drop (i + 1) s)
value-step s v i h = simp (add-one, drop-cons s i 0 h)

pub value-end : (s : List ℕ) (v i : ℕ) → length s ≤ i → value_from v (drop i s) ≡ v
value-end s v i h = simp (drop_of_length-le s h)

-- i digits are below 10 to the i
pub power-step : (v i d : ℕ) → v < 10 ^ i → d ≤ 9 → v * 10 + d < 10 ^ (i + 1)
power-step v i d h k = omega (arith, pow-add 10 i 1)

pub power_small : (v i : ℕ) → v < 10 ^ i → i ≤ 9 → v < 1_000_000_000
power_small v i h k = lt_of_lt_of_le h (pow-le-pow_right (lit< tt) k)

-- the whole field counts where it has at most nine bytes
pub value-whole : (s : List ℕ) → length s ≤ 9 → value s ≡ value_from 0 s
unfolding value
value-whole s h = rw (take_all 9 s h)

-- a field says 0 where each of its bytes does, and only there
value-above : (s : List ℕ) (v : ℕ) → 1 ≤ v → 1 ≤ value_from v s
value-above [] v h = h
value-above (x ∷ xs) v h = value-above xs (v * 10 + digit_value x) (omega arith)

value-zero : (s : List ℕ) → eqb (value_from 0 s) 0 ≡ every zero_digit s
value-zero [] = refl
value-zero (x ∷ xs) = by_first (digit_value x) (value-zero xs)
  where
    by_first : (d : ℕ) → eqb (value_from 0 xs) 0 ≡ every zero_digit xs
        → eqb (value_from (0 * 10 + d) xs) 0 ≡ eqb d 0 && every zero_digit xs
    by_first zero later = later
    by_first (suc d) later =
        rw (ne_eqb (suc d) 0 (λ e. omega arith))
        (ne_eqb (value_from (0 * 10 + suc d) xs) 0 (λ e. omega (arith, value-above xs (0 * 10 + suc d) (omega arith), e)))

pub nine-zero : (s : List ℕ) → every zero_digit (take 9 s) ≡ eqb (value s) 0
unfolding value
nine-zero s = sym (value-zero (take 9 s))

pub whole-zero : (s : List ℕ) → length s ≤ 9 → every zero_digit s ≡ eqb (value s) 0
whole-zero s h = rw (value-whole s h) (sym (value-zero s))

value-below : (s : List ℕ) (v i : ℕ) → v < 10 ^ i → value_from v s < 10 ^ (i + length s)
value-below [] v i h = rw (let z : i + 0 ≡ i = omega arith in z) h
value-below (x ∷ xs) v i h =
    rw (let z : i + suc (length xs) ≡ i + 1 + length xs = omega arith in z)
    (value-below xs (v * 10 + digit_value x) (i + 1) (power-step v i (digit_value x) h (digit-to-9 x)))

-- a field of n digits says less than 10 to the n, whatever its bytes are
pub value-bound : (s : List ℕ) → value_from 0 s < 10 ^ length s
value-bound s = rw (let z : 0 + length s ≡ length s = omega arith in z) at (value-below s 0 0 (lit< tt))

-- a digit more in front of n others
shifted : (v d p rest : ℕ) → (v * 10 + d) * p + rest ≡ v * (p * 10) + (d * p + rest)
shifted v d p rest =
    rw (add-mul (v * 10) d p, mul_assoc v 10 p, mul_comm 10 p, add_assoc (v * (p * 10)) (d * p) rest)

-- what stands before counts in whole powers
value-split : (s : List ℕ) (v : ℕ) → value_from v s ≡ v * 10 ^ length s + value_from 0 s
value-split [] v = rw (pow-zero 10) (omega arith)
value-split (x ∷ xs) v =
    let d = digit_value x in
    let rest = value_from 0 xs in
    value-split xs (v * 10 + d)
    ∙ (shifted v d (10 ^ length xs) rest
    ∙ rw (pow-suc 10 (length xs), value-split xs (0 * 10 + d), (let z : 0 * 10 + d ≡ d = omega arith in z)))

-- a first digit counts in whole powers
pub first-digit : (x : ℕ) (s : List ℕ) → value_from 0 (x ∷ s) ≡ digit_value x * 10 ^ length s + value_from 0 s
first-digit x s =
    let z : 0 * 10 + digit_value x ≡ digit_value x = omega arith in
    ap (λ n. value_from n s) z ∙ value-split s (digit_value x)

-- what comes first outweighs all that is behind it
pub outweighs : (d e p u v : ℕ) → e < d → v < p → e * p + v < d * p + u
outweighs d e p u v h k =
    let more : suc e * p ≤ d * p = mul-le-mul_right p h in
    omega (arith, suc-mul e p)

-- a first digit that is less makes the value less
pub first-less : (x y : ℕ) (s t : List ℕ) → length s ≡ length t → digit_value x < digit_value y
    → value_from 0 (x ∷ s) < value_from 0 (y ∷ t)
first-less x y s t n h =
    rw (first-digit x s, first-digit y t, ← n)
    (outweighs (digit_value y) (digit_value x) (10 ^ length s) (value_from 0 t) (value_from 0 s) h (value-bound s))
