-- `item_write::view_line` meets its contract. Assumes nothing.
use borrow.Author.Rules.{rules}
use native.Mathlib.Omega.{arith}
use Rattle.item.proofs.Lines.{view-short}
use Rattle.item_write.proofs.Laws.{line-holds}
use Rattle.item_write.proofs.view_line.Statement.{statement}
use Rattle.item_write.proofs.view_line.Tie as tie

view-at-requires : tie.Need-view_at-len-requires
view-at-requires c κs =
    let a = c.args in
    omega (arith, view-short a.view a.letter (omega arith))

returns : tie.Need-returns
returns c =
    let a = c.args in
    line-holds _ (view-short a.view a.letter (omega arith)) c.view_at-len.ensures

pub view_line_spec : {M : Type 1} → statement M
view_line_spec = tie.close (tie.spec (search rules) view-at-requires returns)
