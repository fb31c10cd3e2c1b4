-- `item_write::number_line` meets its contract. Assumes nothing.
use borrow.Author.Rules.{rules}
use native.Mathlib.Omega.{arith}
use Rattle.item.proofs.Lines.{number_short}
use Rattle.item_write.proofs.Laws.{line-holds}
use Rattle.item_write.proofs.number_line.Statement.{statement}
use Rattle.item_write.proofs.number_line.Tie as tie

spaced-at-requires : tie.Need-spaced_at-len-requires
spaced-at-requires c κs =
    let a = c.args in
    omega (arith, number_short a.n (omega arith))

returns : tie.Need-returns
returns c =
    let a = c.args in
    line-holds _ (number_short a.n (omega arith)) c.spaced_at-len.ensures

pub number_line_spec : {M : Type 1} → statement M
number_line_spec = tie.close (tie.spec (search rules) spaced-at-requires returns)
