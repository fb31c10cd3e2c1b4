-- `item_write::point_line` meets its contract. Assumes nothing.
use borrow.Author.Rules.{rules}
use native.Mathlib.Omega.{arith}
use Rattle.item.proofs.Lines.{point-short}
use Rattle.item_write.proofs.Laws.{line-holds}
use Rattle.item_write.proofs.point_line.Statement.{statement}
use Rattle.item_write.proofs.point_line.Tie as tie

point-at-requires : tie.Need-point_at-len-requires
point-at-requires c κs =
    let a = c.args in
    omega (arith, point-short a.k (omega arith))

returns : tie.Need-returns
returns c =
    let a = c.args in
    line-holds _ (point-short a.k (omega arith)) c.point_at-len.ensures

pub point_line_spec : {M : Type 1} → statement M
point_line_spec = tie.close (tie.spec (search rules) point-at-requires returns)
