-- Numbers by their bytes.
-- Assumes nothing.
use Prim.Native.Nat.{ℕ, ◌/◌, ◌%◌}
use mathlib.Core.Path.{◌≡◌}
use mathlib.Core.List.{[], ◌∷◌, ◌++◌}
use native.Mathlib.Omega.{arith}
use Rattle.pack.specs.Numbers.{bytes_of}

-- two bytes, one by one
pub short-is : (n : ℕ) → (n / 256 % 256) ∷ (n % 256) ∷ [] ≡ bytes_of 2 n
short-is n = rw (let e : n / 1 ≡ n = omega arith in e)

-- four bytes, two by two
pub word-is : (n : ℕ) → bytes_of 2 (n / 65_536) ++ bytes_of 2 n ≡ bytes_of 4 n
word-is n =
    let top : n / 65_536 / 256 ≡ n / 16_777_216 = omega arith in
    let next : n / 65_536 / 1 ≡ n / 65_536 = omega arith in
    rw (top, next)
