-- The number of a row tells its kind and its key.
-- Assumes nothing.
use Prim.Native.Nat.{ℕ, ◌≤◌}
use mathlib.Core.Path.{◌≡◌}
use native.Mathlib.Omega.{arith}
use Rattle.source.specs.Address.{ref, kind_of, key_of}

pub ref-kind : (kind key : ℕ) → key ≤ 99_999_999 → kind_of (ref kind key) ≡ kind
ref-kind kind key h = omega arith

pub ref-key : (kind key : ℕ) → key ≤ 99_999_999 → key_of (ref kind key) ≡ key
ref-key kind key h = omega arith
