-- Laws of the widths of a pack's parts, whatever its edition.
-- Assumes nothing.
use Prim.Native.Nat.{ℕ, ◌+◌, ◌*◌, ◌≤◌, ◌<◌}
use native.Mathlib.Omega.{arith}
use native.Mathlib.Nat.{mul-le-mul, mul-le-mul_left}
use mathlib.Core.Bool.{Bool, true, false, cond}
use Rattle.pack.specs.Names.{has_suffix, has_counts, postcode_width, suffix_width, counts_width, point_width, trailer_width}

-- no edition has a wider point or trailer
or-none : (t : Bool) (n : ℕ) → cond t n 0 ≤ n
or-none true n = omega arith
or-none false n = omega arith

pub point-small : (edition : ℕ) → point_width edition ≤ 64
point-small edition = omega (arith, or-none (has_suffix edition) suffix_width)

pub trailer-small : (edition : ℕ) → trailer_width edition ≤ 64
trailer-small edition = omega (arith, or-none (has_counts edition) counts_width)

-- and a point has more than its postcode
pub point-more : (edition : ℕ) → postcode_width < point_width edition
point-more edition = omega arith

-- so that no sum over a pack is too large
pub points-small : (edition count : ℕ) → count < 4_294_967_296 → point_width edition * count ≤ 64 * 4_294_967_296
points-small edition count h = mul-le-mul {m₂ = 4_294_967_296} (point-small edition) (omega arith)

-- what is counted ends before all of them do
pub one_of : (width i n : ℕ) → i < n → width * i + width ≤ width * n
one_of width i n h = omega (arith, mul-le-mul_left width (let z : i + 1 ≤ n = omega arith in z))
