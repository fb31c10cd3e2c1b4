use Rattle.std.proofs.Common.{length}
use Rattle.label.specs.Label.{ended}
use Rattle.label.proofs.Going.{Going}
use Rattle.van.specs.Walk.{text_rows}
use Rattle.van_fold.proofs.inner.write_text.Given as goal

-- the rows of all lines before those of what is left are written
abbrev pub invariant-loop-rest : goal.invariant-loop-rest
invariant-loop-rest l = Going (ended (text_rows l.text)) (ended (text_rows l.rest)) l.initial.out 0 l.i l.out

abbrev pub decreases-loop-rest : goal.decreases-loop-rest
decreases-loop-rest l = length l.rest
