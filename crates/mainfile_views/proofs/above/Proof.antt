-- `mainfile_views::above` meets its contract. Assumes nothing.
use borrow.Author.Rules.{rules}
use native.Mathlib.Omega.{arith}
use Rattle.mainfile_views.proofs.above.Statement.{statement}
use Rattle.mainfile_views.proofs.above.Tie as tie

returns-2 : tie.Need-returns-else-m-n
returns-2 c = omega (arith, c.if-m-n.false)

pub above_spec : {M : Type 1} → statement M
above_spec = tie.close (tie.spec (search rules) (search rules) returns-2)
