-- The loop of `field_test::all_in`: nothing bad so far, and the bytes left, together say whether every byte passes.
-- Assumes nothing.
use Rattle.std.proofs.Common.{◌≡◌, not, drop}
use mathlib.Core.Bool.{◌&&◌}
use Rattle.field.specs.Test.{member, every}
use Rattle.field_test.proofs.all_in.Given as goal

abbrev pub invariant-loop-b : goal.invariant-loop-b
invariant-loop-b l =
    every (member l.low l.high l.from l.to) l.s
    ≡ not l.bad && every (member l.low l.high l.from l.to) (drop l.b-index l.s)
