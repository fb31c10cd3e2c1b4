-- A number as a field: its digits are read back as the number.
-- Assumes nothing.
use Prim.Native.Nat.{ℕ, ◌+◌, ◌/◌, ◌%◌, ◌≤◌}
use mathlib.Core.Path.{◌≡◌, refl}
use mathlib.Core.Bool.{Bool, true, false, cond}
use mathlib.Core.List.{List, [], ◌∷◌}
use native.Mathlib.Omega.{arith}
use borrow.Author.Tests.{le-leb, eqb-true, ltb-true}
use lib.Dec.{eqb, ltb}
use lib.ListN.{length}
use Rattle.field.specs.Test.{every}
use Rattle.field.specs.Digits.{digit, digit_value, value}
use Rattle.label.specs.Lines.{number_text}

digit-is : (d : ℕ) → d ≤ 9 → digit (48 + d) ≡ true
digit-is d h = simp (le-leb 48 (48 + d) (omega arith), le-leb (48 + d) 57 (omega arith))

digit-back : (d : ℕ) → d ≤ 9 → digit_value (48 + d) ≡ d
unfolding digit_value
digit-back d h = simp (digit-is d h) (omega arith)

pub record Digits (n : ℕ) (t : List ℕ) : Type 0 where
  pub says : value t ≡ n
  pub digits : every digit t ≡ true
  pub long : length t ≤ 4

pub number-back : (n : ℕ) → n ≤ 9_999 → Digits n (number_text n)
unfolding number_text value
number-back n h = by_tests (eqb n 0) (ltb n 10) (ltb n 100) (ltb n 1000) refl refl refl refl
  where
    by_tests : (t u v w : Bool) → eqb n 0 ≡ t → ltb n 10 ≡ u → ltb n 100 ≡ v → ltb n 1000 ≡ w
        → Digits n
        (cond t []
        (cond u ((48 + n) ∷ [])
        (cond v ((48 + n / 10) ∷ (48 + n % 10) ∷ [])
        (cond w ((48 + n / 100) ∷ (48 + n / 10 % 10) ∷ (48 + n % 10) ∷ [])
        ((48 + n / 1000) ∷ (48 + n / 100 % 10) ∷ (48 + n / 10 % 10) ∷ (48 + n % 10) ∷ [])))))
    by_tests true u v w o p q r =
        record { says = omega (arith, eqb-true n 0 o); digits = refl; long = omega arith }
    by_tests false true v w o p q r =
        let a : n ≤ 9 = omega (arith, ltb-true n 10 p) in
        record {
          says = simp (digit-back n a) (omega arith);
          digits = simp (digit-is n a);
          long = omega arith;
        }
    by_tests false false true w o p q r =
        let a : n / 10 ≤ 9 = omega (arith, ltb-true n 100 q) in
        let b : n % 10 ≤ 9 = omega arith in
        record {
          says = simp (digit-back (n / 10) a, digit-back (n % 10) b) (omega arith);
          digits = simp (digit-is (n / 10) a, digit-is (n % 10) b);
          long = omega arith;
        }
    by_tests false false false true o p q r =
        let a : n / 100 ≤ 9 = omega (arith, ltb-true n 1000 r) in
        let b : n / 10 % 10 ≤ 9 = omega arith in
        let c : n % 10 ≤ 9 = omega arith in
        record {
          says = simp (digit-back (n / 100) a, digit-back (n / 10 % 10) b, digit-back (n % 10) c) (omega arith);
          digits = simp (digit-is (n / 100) a, digit-is (n / 10 % 10) b, digit-is (n % 10) c);
          long = omega arith;
        }
    by_tests false false false false o p q r =
        let a : n / 1000 ≤ 9 = omega arith in
        let b : n / 100 % 10 ≤ 9 = omega arith in
        let c : n / 10 % 10 ≤ 9 = omega arith in
        let d : n % 10 ≤ 9 = omega arith in
        record {
          says = simp (
            digit-back (n / 1000) a,
            digit-back (n / 100 % 10) b,
            digit-back (n / 10 % 10) c,
            digit-back (n % 10) d,
          )
              (omega arith);
          digits = simp (
            digit-is (n / 1000) a,
            digit-is (n / 100 % 10) b,
            digit-is (n / 10 % 10) c,
            digit-is (n % 10) d,
          );
          long = omega arith;
        }
