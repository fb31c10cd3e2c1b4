-- Laws of all of a point but its offsets, as the code tests it.
-- Assumes nothing.
use Prim.Native.Nat.{ℕ, suc, ◌+◌, ◌-◌, ◌*◌, ◌≤◌, ◌<◌}
use mathlib.Core.Path.{◌≡◌, ap}
use mathlib.Core.List.{List}
use native.Mathlib.Omega.{arith}
use lib.Dec.{eqb}
use lib.ListN.{length, get_or}
use lib.Seq.{drop-cons}
use Rattle.std.proofs.lemmas.Bool.Decides.{nat_tests}
use Rattle.pack.specs.Names.{absent}
use Rattle.pack.specs.Numbers.{number_at}

-- four bytes of a pack as a number, and from the back
module _ (pack : List ℕ) (at : ℕ) (room : at + 4 ≤ length pack) where
  pub four_bytes : number_at pack at 4
      ≡ ((get_or pack at 0 * 256 + get_or pack (at + 1) 0) * 256 + get_or pack (at + 2) 0) * 256 + get_or pack (at + 3) 0
  unfolding number_at
  four_bytes =
      rw (
        (let size : at + 4 - at ≡ 4 = omega arith in size),
        drop-cons pack at 0 (omega arith),
        drop-cons pack (suc at) 0 (omega arith),
        drop-cons pack (suc (suc at)) 0 (omega arith),
        drop-cons pack (suc (suc (suc at))) 0 (omega arith),
      )
      (omega (
        arith,
        ap (λ k. get_or pack k 0) (let one : at + 1 ≡ suc at = omega arith in one),
        ap (λ k. get_or pack k 0) (let two : at + 2 ≡ suc (suc at) = omega arith in two),
        ap (λ k. get_or pack k 0) (let three : at + 3 ≡ suc (suc (suc at)) = omega arith in three),
      ))

  abbrev back : ℕ
  back = get_or pack at 0 + get_or pack (at + 1) 0 * 256 + (get_or pack (at + 2) 0 + get_or pack (at + 3) 0 * 256) * 65536

  pub absent-back : ((i : ℕ) → get_or pack i 0 < 256) → eqb back absent ≡ eqb (number_at pack at 4) absent
  absent-back bytes =
      let b₀ = bytes at in
      let b₁ = bytes (at + 1) in
      let b₂ = bytes (at + 2) in
      let b₃ = bytes (at + 3) in
      let four = four_bytes in
      grind (arith, nat_tests)
