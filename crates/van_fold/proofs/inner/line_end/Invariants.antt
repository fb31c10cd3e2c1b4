use Rattle.van_fold.proofs.Lines.{NoneBefore}
use Rattle.van_fold.proofs.inner.line_end.Given as goal

-- no line end stands among the bytes that were looked at
abbrev pub invariant-loop-i : goal.invariant-loop-i
invariant-loop-i l = NoneBefore l.text l.i
