-- The loop of `field_test::digits_where`: nothing bad so far, and the bytes left, together say whether digits stand where
-- they are wanted. Assumes nothing.
use Rattle.std.proofs.Common.{◌≡◌, not, drop}
use mathlib.Core.Bool.{◌&&◌}
use Rattle.field_test.specs.Pattern.{digits_where}
use Rattle.field_test.proofs.digits_where.Given as goal

abbrev pub invariant-loop-i : goal.invariant-loop-i
invariant-loop-i l =
    digits_where l.s l.pattern
    ≡ not l.bad && digits_where (drop l.i l.s) (drop l.i l.pattern)
