-- The digits of a number.
-- Assumes nothing.
use Rattle.std.proofs.Common.{◌≡◌, ℕ, zero, suc, ◌+◌, ◌*◌, ◌/◌, ◌%◌, ◌^◌, ◌<◌, ◌≤◌, true, List, [], ◌∷◌, ◌++◌, length, refl, ◌∙◌, pow-suc, arith, length-append, le-leb}
use native.Mathlib.Nat.{pow-zero}
use Rattle.field.specs.Test.{every}
use Rattle.field.specs.Digits.{digit, digit_value, value_from}
use Rattle.field.proofs.Values.{digit-again}
use Rattle.field.proofs.Parts.{every_append}
use Rattle.field_word.specs.Word.{weight, digits_of}
use Rattle.field_word.proofs.Digits.{weight-more}

one-digit : (d : ℕ) → d ≤ 9 → digit (48 + d) ≡ true
one-digit d h = rw (le-leb 48 (48 + d) (omega arith), le-leb (48 + d) 57 (omega arith))

pub of-digits : (n v : ℕ) → every digit (digits_of n v) ≡ true
of-digits zero v = refl
of-digits (suc n) v =
    every_append digit (digits_of n (v / 10)) ((48 + v % 10) ∷ []) (of-digits n (v / 10))
    (rw (one-digit (v % 10) (omega arith)) refl)

pub of_length : (n v : ℕ) → length (digits_of n v) ≡ n
of_length zero v = refl
of_length (suc n) v =
    length-append (digits_of n (v / 10)) ((48 + v % 10) ∷ []) ∙ omega (arith, of_length n (v / 10))

value-more : (s : List ℕ) (v x : ℕ) → value_from v (s ++ (x ∷ [])) ≡ value_from v s * 10 + digit_value x
value-more [] v x = refl
value-more (a ∷ s) v x = value-more s (v * 10 + digit_value a) x

digit-said : (d : ℕ) → d ≤ 9 → digit_value (48 + d) ≡ d
digit-said d h = omega (arith, digit-again (48 + d) (one-digit d h))

pub of-value : (n v : ℕ) → v < 10 ^ n → value_from 0 (digits_of n v) ≡ v
of-value zero v h = omega (arith, rw (pow-zero 10) at h)
of-value (suc n) v h =
    let power = 10 ^ n in
    let less : v < power * 10 = rw (pow-suc 10 n) at h in
    value-more (digits_of n (v / 10)) 0 (48 + v % 10)
    ∙ (rw (of-value n (v / 10) (omega arith), digit-said (v % 10) (omega arith)) (omega arith))

weight-digits : (n v : ℕ) → weight (digits_of (suc n) v) ≡ weight (digits_of n (v / 10)) * 256 + (48 + v % 10)
weight-digits n v = weight-more (digits_of n (v / 10)) (48 + v % 10)

four-by-digits : (v : ℕ) → weight (digits_of 4 v)
    ≡ (((48 + v / 10 / 10 / 10 % 10) * 256 + (48 + v / 10 / 10 % 10)) * 256 + (48 + v / 10 % 10)) * 256 + (48 + v % 10)
four-by-digits v =
    omega (arith, weight-digits 3 v, weight-digits 2 (v / 10), weight-digits 1 (v / 10 / 10), weight-digits 0 (v / 10 / 10 / 10))

pub four-weigh : (v : ℕ) → v < 10_000
    → weight (digits_of 2 (v / 100)) * 65_536 + weight (digits_of 2 (v % 100)) ≡ weight (digits_of 4 v)
four-weigh v h =
    let a : v / 100 / 10 % 10 ≡ v / 10 / 10 / 10 % 10 = omega arith in
    let b : v / 100 % 10 ≡ v / 10 / 10 % 10 = omega arith in
    let c : v % 100 / 10 % 10 ≡ v / 10 % 10 = omega arith in
    let d : v % 100 % 10 ≡ v % 10 = omega arith in
    omega (
      arith,
      four-by-digits v,
      weight-digits 1 (v / 100),
      weight-digits 0 (v / 100 / 10),
      weight-digits 1 (v % 100),
      weight-digits 0 (v % 100 / 10),
    )

eight-by-digits : (v : ℕ) → weight (digits_of 8 v)
    ≡ (((weight (digits_of 4 (v / 10 / 10 / 10 / 10)) * 256 + (48 + v / 10 / 10 / 10 % 10)) * 256 + (48 + v / 10 / 10 % 10)) * 256
    + (48 + v / 10 % 10))
    * 256
    + (48 + v % 10)
eight-by-digits v =
    rw (weight-digits 7 v, weight-digits 6 (v / 10), weight-digits 5 (v / 10 / 10), weight-digits 4 (v / 10 / 10 / 10))

apart : (w a b c d : ℕ)
    → w * 4_294_967_296 + (((a * 256 + b) * 256 + c) * 256 + d) ≡ (((w * 256 + a) * 256 + b) * 256 + c) * 256 + d
apart w a b c d = omega arith

pub eight-weigh : (v : ℕ) → v < 100_000_000
    → weight (digits_of 4 (v / 10_000)) * 4_294_967_296 + weight (digits_of 4 (v % 10_000)) ≡ weight (digits_of 8 v)
eight-weigh v h =
    let high : v / 10_000 ≡ v / 10 / 10 / 10 / 10 = omega arith in
    let a : v % 10_000 / 10 / 10 / 10 % 10 ≡ v / 10 / 10 / 10 % 10 = omega arith in
    let b : v % 10_000 / 10 / 10 % 10 ≡ v / 10 / 10 % 10 = omega arith in
    let c : v % 10_000 / 10 % 10 ≡ v / 10 % 10 = omega arith in
    let d : v % 10_000 % 10 ≡ v % 10 = omega arith in
    rw (four-by-digits (v % 10_000), eight-by-digits v, a, b, c, d, high)
    (apart (weight (digits_of 4 (v / 10 / 10 / 10 / 10))) (48 + v / 10 / 10 / 10 % 10) (48 + v / 10 / 10 % 10) (48 + v / 10 % 10)
    (48 + v % 10))
