-- The loop of `field_test::first_out`: the first fault is the first of the bytes left. Assumes nothing.
use Rattle.std.proofs.Common.{◌≡◌, ◌+◌, drop}
use Rattle.field.specs.Test.{member, fault_from, first_fault}
use Rattle.field_test.proofs.first_out.Given as goal

abbrev pub invariant-loop-i : goal.invariant-loop-i
invariant-loop-i l =
    first_fault (member l.low l.high l.from l.to) l.s
    ≡ fault_from (member l.low l.high l.from l.to) (l.i + 1) (drop l.i l.s)
