use Rattle.std.proofs.Common.{◌≡◌, ◌++◌, take, drop}
use Rattle.label_pieces.proofs.inner.put_bytes.Given as goal

-- so many bytes are copied, and the rest is as it was
abbrev pub invariant-loop-i : goal.invariant-loop-i
invariant-loop-i l = l.out ≡ take l.i l.t ++ drop l.i l.initial.out
