use Rattle.std.proofs.Common.{◌≡◌, ◌*◌, drop}
use Rattle.file_compare.specs.Order.{order, ordering}
use Rattle.file_compare.proofs.order_of.Given as goal

-- what is left decides
abbrev pub invariant-loop-k : goal.invariant-loop-k
invariant-loop-k l = ordering (order l.a l.b) ≡ ordering (order (drop (l.k * 8) l.x) (drop (l.k * 8) l.y))
