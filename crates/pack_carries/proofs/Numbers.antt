-- A number is known by its bytes.
-- Assumes nothing.
use Prim.Native.Nat.{ℕ, zero, suc, ◌+◌, ◌*◌, ◌/◌, ◌%◌, ◌^◌, ◌<◌}
use mathlib.Core.Path.{◌≡◌, refl, sym, ap, ◌∙◌}
use native.Mathlib.Nat.{pow-zero, pow-suc, div-one, div-eq_of_lt, div-div-eq-div-mul, div-add-mod'}
use lib.ListN.{length}
use Rattle.pack.specs.Numbers.{bytes_of, number_from}

pub bytes-long : (w n : ℕ) → length (bytes_of w n) ≡ w
bytes-long zero n = refl
bytes-long (suc w) n = ap suc (bytes-long w n)

-- what stands before the last w bytes, with one byte more
next-byte : (w n : ℕ) → n / 256 ^ suc w * 256 + n / 256 ^ w % 256 ≡ n / 256 ^ w
next-byte w n = rw (pow-suc 256 w, ← div-div-eq-div-mul n (256 ^ w) 256) (div-add-mod' (n / 256 ^ w) 256)

bytes-from : (w n : ℕ) → number_from (n / 256 ^ w) (bytes_of w n) ≡ n
bytes-from zero n = rw (pow-zero 256, div-one n)
bytes-from (suc w) n = ap (λ v. number_from v (bytes_of w n)) (next-byte w n) ∙ bytes-from w n

pub number-back : (w n : ℕ) → n < 256 ^ w → number_from 0 (bytes_of w n) ≡ n
number-back w n h = ap (λ v. number_from v (bytes_of w n)) (sym (div-eq_of_lt h)) ∙ bytes-from w n
