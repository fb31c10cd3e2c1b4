-- A fresh array: no bit of it is set.
-- Assumes nothing.
use Prim.Native.Nat.{ℕ, zero, suc, ◌/◌, ◌%◌, ◌^◌}
use mathlib.Core.Path.{◌≡◌, refl, ap, ◌∙◌}
use native.Mathlib.Nat.{zero-div}
use lib.Dec.{eqb}
use lib.ListN.{get_or, replicate}
use Rattle.bits.specs.Bits.{marked, Unmarked}

zeros : (n i : ℕ) → get_or {A = ℕ} (replicate n 0) i 0 ≡ 0
zeros zero i = refl
zeros (suc n) zero = refl
zeros (suc n) (suc i) = zeros n i

pub fresh_unmarked : (n : ℕ) → Unmarked (replicate {A = ℕ} n 0)
unfolding marked
fresh_unmarked n o =
    let none : get_or {A = ℕ} (replicate n 0) (o / 32) 0 / 2 ^ (o % 32) % 2 ≡ 0
    = ap (λ w. w / 2 ^ (o % 32) % 2) (zeros n (o / 32)) ∙ ap (◌% 2) (zero-div (2 ^ (o % 32))) in
    ap (λ z. eqb z 1) none
