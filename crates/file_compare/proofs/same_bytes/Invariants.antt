use Rattle.std.proofs.Common.{◌≡◌, length, drop, not, ◌&&◌}
use Rattle.file_compare.specs.Order.{same}
use Rattle.file_compare.proofs.same_bytes.Given as goal

-- nothing other so far, and the bytes left, together say whether both are the same
abbrev pub invariant-loop-x : goal.invariant-loop-x
invariant-loop-x l = (same l.a l.b ≡ not l.other && same (drop (length l.yielded) l.a) (drop (length l.yielded) l.b))
