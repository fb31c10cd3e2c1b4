use Rattle.std.proofs.Common.{◌≡◌, ◌*◌, drop}
use Rattle.file_compare.specs.Order.{order}
use Rattle.file_compare.proofs.same_front.Given as goal

-- what is left decides
abbrev pub invariant-loop-k : goal.invariant-loop-k
invariant-loop-k l = order l.a l.b ≡ order (drop (l.k * 8) l.a) (drop (l.k * 8) l.b)
