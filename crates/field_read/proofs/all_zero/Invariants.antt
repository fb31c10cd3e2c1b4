-- The loop of `field_read::all_zero`: nothing said so far, and the bytes left, together say whether all say 0.
-- Assumes nothing.
use Rattle.std.proofs.Common.{◌≡◌, not, drop}
use mathlib.Core.Bool.{◌&&◌}
use Rattle.field.specs.Test.{every}
use Rattle.field.specs.Digits.{zero_digit}
use Rattle.field_read.proofs.all_zero.Given as goal

abbrev pub invariant-loop-b : goal.invariant-loop-b
invariant-loop-b l = every zero_digit l.s ≡ not l.some && every zero_digit (drop l.b-index l.s)
