use Rattle.std.proofs.Common.{length}
use Rattle.van.specs.Walk.{text_rows}
use Rattle.van_fold.proofs.Counts.{Counted}
use Rattle.van_fold.proofs.inner.text_size.Given as goal

-- the rows of all lines before those of what is left are counted
abbrev pub invariant-loop-rest : goal.invariant-loop-rest
invariant-loop-rest l = Counted (text_rows l.text) (text_rows l.rest) l.rows l.bytes

abbrev pub decreases-loop-rest : goal.decreases-loop-rest
decreases-loop-rest l = length l.rest
