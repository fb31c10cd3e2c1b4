-- Digits that are compared as bytes are compared as numbers.
-- Assumes nothing.
use Prim.Native.Nat.{ℕ, ◌<◌}
use mathlib.Core.Path.{◌≡◌, sym, ap, ◌∙◌}
use mathlib.Core.Bool.{true}
use mathlib.Core.List.{List, [], ◌∷◌}
use native.Mathlib.Omega.{arith}
use lib.ListN.{length}
use Rattle.field.specs.Test.{every}
use Rattle.field.specs.Digits.{digit, digit_value, value_from}
use Rattle.field.proofs.Tests.{and_left, and_right}
use Rattle.field.proofs.Values.{digit-again, first-digit, first-less}
use Rattle.file_compare.specs.Order.{order}
use Rattle.file_compare.proofs.Order.{by_bytes, first_below, first-same}

pub digits-rise : (a b : List ℕ) → length a ≡ length b → every digit a ≡ true → every digit b ≡ true → order a b ≡ 2
    → value_from 0 b < value_from 0 a
digits-rise [] [] n p q o = absurd (omega arith)
digits-rise [] (y ∷ b) n p q o = absurd (omega arith)
digits-rise (x ∷ a) [] n p q o = absurd (omega arith)
digits-rise (x ∷ a) (y ∷ b) n p q o =
    let long : length a ≡ length b = omega arith in
    let u = digit-again x (and_left (digit x) (every digit a) p) in
    let v = digit-again y (and_left (digit y) (every digit b) q) in
    by_bytes x y
    (λ l. absurd (omega (arith, first_below x y a b l)))
    (λ e.
    rw (first-digit x a, first-digit y b, long, ap digit_value e)
    (omega (
      arith,
      digits-rise a b long (and_right (digit x) (every digit a) p) (and_right (digit y) (every digit b) q)
          (sym (first-same x y a b e) ∙ o),
    )))
    (λ g. first-less y x b a (sym long) (omega arith))
