-- Where an address record and its organisation start, whatever the bytes are.
-- Assumes nothing.
use Prim.Native.Nat.{ℕ, ◌+◌, ◌-◌, ◌*◌, ◌/◌, ◌≤◌}
use mathlib.Core.Path.{◌≡◌, refl}
use mathlib.Core.Bool.{Bool, true, false, cond}
use mathlib.Core.List.{List}
use native.Mathlib.Omega.{arith}
use borrow.Author.Tests.{ltb-true}
use lib.Dec.{ltb}
use lib.ListN.{length}
use Rattle.field.specs.Digits.{value}
use Rattle.field.specs.Text.{part}
use Rattle.mainfile.specs.Addresses.{is_large, needs_row}
use Rattle.mainfile_source.specs.Organisations.{last_in, organisation_found}
use Rattle.mainfile_source.specs.Delivery.{start_at, own_found}
use Rattle.mainfile_source.proofs.Joining.{organisation-before}

-- a record starts within the file
pub start-within : (addresses : List ℕ) (i : ℕ) → start_at addresses i ≤ length addresses
start-within addresses i = by-test (ltb i (length addresses / 88)) refl
  where
    by-test : (t : Bool) → ltb i (length addresses / 88) ≡ t → cond t (i * 88) 0 ≤ length addresses
    by-test true e = omega (arith, ltb-true i (length addresses / 88) e)
    by-test false e = omega arith

-- and the organisation's before the trailer
pub own-before : (organisations rec : List ℕ) → own_found organisations rec ≤ last_in organisations - 1
unfolding own_found
own-before organisations rec = by_tests (needs_row rec) (is_large rec)
  where
    large : ℕ
    large = organisation_found organisations 76 (value (part rec 7 15))

    small : ℕ
    small = organisation_found organisations 83 (value (part rec 69 77))

    by_tests : (t u : Bool) → cond t (cond u large small) 0 ≤ last_in organisations - 1
    by_tests true true = organisation-before organisations 76 (value (part rec 7 15))
    by_tests true false = organisation-before organisations 83 (value (part rec 69 77))
    by_tests false u = omega arith
