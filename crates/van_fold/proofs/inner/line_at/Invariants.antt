use Rattle.std.proofs.Common.{length}
use Rattle.label.specs.Label.{ended}
use Rattle.label.proofs.Going.{Going}
use Rattle.van.specs.Walk.{line_rows}
use Rattle.van_fold.proofs.inner.line_at.Given as goal

-- the rows before those of what is left are written
abbrev pub invariant-loop-rest : goal.invariant-loop-rest
invariant-loop-rest l =
    Going (ended (line_rows l.line)) (ended (line_rows l.rest)) l.initial.out l.place l.i l.out

abbrev pub decreases-loop-rest : goal.decreases-loop-rest
decreases-loop-rest l = length l.rest
