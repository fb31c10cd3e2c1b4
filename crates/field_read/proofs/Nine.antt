-- What eight and nine bytes say.
-- Assumes nothing.
use Prim.Native.Nat.{ℕ, ◌+◌, ◌*◌, ◌^◌, ◌<◌}
use mathlib.Core.Path.{◌≡◌, sym, ap, ◌∙◌}
use mathlib.Core.List.{List, [], ◌∷◌}
use native.Mathlib.Omega.{arith}
use lib.ListN.{length, get_or}
use lib.Seq.{take_all}
use Rattle.field.specs.Digits.{digit_value, value_from, value}
use Rattle.field.specs.Text.{part}
use Rattle.field.proofs.Values.{value-whole, first-digit}
use Rattle.field.proofs.Fronts.{value-small}

pub eight-says : (s : List ℕ) → length s ≡ 8 → value_from 0 (part s 0 8) ≡ value s
eight-says s n = ap (value_from 0) (take_all 8 s (omega arith)) ∙ sym (value-whole s (omega arith))

pub nine-says : (s : List ℕ) → length s ≡ 9
    → digit_value (get_or s 0 0) * 100_000_000 + value_from 0 (part s 1 9) ≡ value s
nine-says [] n = absurd (omega arith)
nine-says (x ∷ s) n =
    let long : length s ≡ 8 = omega arith in
    rw (take_all 8 s (omega arith))
    (sym (value-whole (x ∷ s) (omega arith) ∙ (first-digit x s ∙ ap (λ k. digit_value x * 10 ^ k + value_from 0 s) long)))

pub nine-fits : (s : List ℕ) → length s ≡ 9 → digit_value (get_or s 0 0) * 100_000_000 + value_from 0 (part s 1 9) < 1_000_000_000
nine-fits s n = rw (nine-says s n) (value-small s)
