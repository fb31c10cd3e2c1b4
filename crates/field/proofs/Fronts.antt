-- A text is the front of its field, and so many digits say less than a power of ten.
-- Assumes nothing.
use Prim.Native.Nat.{ℕ, suc, ◌+◌, ◌-◌, ◌^◌, ◌≤◌, ◌<◌}
use mathlib.Core.Path.{◌≡◌, refl, sym, ap}
use mathlib.Core.Bool.{Bool, true, false}
use mathlib.Core.List.{List, [], ◌∷◌}
use native.Mathlib.Omega.{arith}
use native.Mathlib.Nat.{lt_of_lt_of_le, pow-le-pow_right, min-le_left}
use lib.Dec.{eqb, lit<}
use lib.ListN.{length, take, drop, length-take}
use lib.Seq.{take-take}
use Rattle.field.specs.Digits.{value_from, value}
use Rattle.field.specs.Text.{keep, trim, part, text_in}
use Rattle.field.proofs.Texts.{part-bound}
use Rattle.field.proofs.Values.{power_small, value-whole, value-bound}

-- a text is the front of its field
keep-bound : (t : Bool) (x : ℕ) (s : List ℕ) (n : ℕ) → length s ≤ n → length (keep t x s) ≤ suc n
keep-bound true x [] n h = omega arith
keep-bound true x (y ∷ ys) n h = omega arith
keep-bound false x s n h = omega arith

trim-bound : (s : List ℕ) → length (trim s) ≤ length s
trim-bound [] = omega arith
trim-bound (x ∷ xs) = keep-bound (eqb x 32) x (trim xs) (length xs) (trim-bound xs)

pub text_in-bound : (rec : List ℕ) (start end : ℕ) → length (text_in rec start end) ≤ end - start
unfolding text_in
text_in-bound rec start end = omega (arith, trim-bound (part rec start end), part-bound rec start end)

keep-front : (t : Bool) (x : ℕ) (s xs : List ℕ) → take (length s) xs ≡ s → take (length (keep t x s)) (x ∷ xs) ≡ keep t x s
keep-front true x [] xs e = refl
keep-front true x (y ∷ ys) xs e = ap (x ∷◌) e
keep-front false x s xs e = ap (x ∷◌) e

trim-front : (s : List ℕ) → take (length (trim s)) s ≡ trim s
trim-front [] = refl
trim-front (x ∷ xs) = keep-front (eqb x 32) x (trim xs) xs (trim-front xs)

-- a numeric field says a number of nine digits, whatever its bytes are
pub value-small : (s : List ℕ) → value s < 1_000_000_000
unfolding value
value-small s =
    power_small (value_from 0 (take 9 s)) (length (take 9 s)) (value-bound (take 9 s))
    (rw length-take (min-le_left 9 (length s)))

-- w bytes say less than 10 to the w
pub digits-below : (w : ℕ) (s : List ℕ) → w ≤ 9 → length s ≤ w → value s < 10 ^ w
digits-below w s small h =
    rw (value-whole s (omega arith)) (lt_of_lt_of_le (value-bound s) (pow-le-pow_right (lit< tt) h))

-- the bytes that a text without its padding takes up
pub front-text : (file : List ℕ) (from to : ℕ) → part file from (from + length (text_in file from to)) ≡ text_in file from to
unfolding text_in
front-text file from to =
    let n = length (text_in file from to) in
    let small : from + n - from ≡ n = omega arith in
    rw (small, sym (take-take n (to - from) (drop from file) (text_in-bound file from to)))
    (trim-front (part file from to))

-- four bytes say less than 10,000
pub four-digits : (s : List ℕ) → length s ≤ 4 → value s < 10_000
four-digits s h = digits-below 4 s (omega arith) h
