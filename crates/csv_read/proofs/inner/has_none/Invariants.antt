-- Nothing bad so far, and the bytes left, together say whether no byte is this one.
-- Assumes nothing.
use Rattle.std.proofs.Common.{◌≡◌, not, ◌&&◌, eqb, drop}
use Rattle.field.specs.Test.{every}
use Rattle.csv_read.proofs.inner.has_none.Given as goal

abbrev pub invariant-loop-x : goal.invariant-loop-x
invariant-loop-x l =
    every (λ x. not (eqb x l.b)) l.s ≡ not l.bad && every (λ x. not (eqb x l.b)) (drop l.x-index l.s)
