-- `file_compare::eight_same` meets its contract. Assumes nothing.
use borrow.Author.Rules.{rules}
use Rattle.file_compare.proofs.Words.{eight-same-on}
use borrow.Author.Tests.{eqb-true}
use Rattle.file_compare.proofs.eight_same.Statement.{statement}
use Rattle.file_compare.proofs.eight_same.Tie as tie

returns : tie.Need-returns
returns c =
    let other = c in
    let start = other in
    λ e.
    eight-same-on start.args.a.now start.args.b.now start.args.i start.requires.0 start.requires.1 _ _
    other.eight_at.ensures c.eight_at-2.ensures (eqb-true _ _ e)

pub eight_same_spec : {M : Type 1} → statement M
eight_same_spec = tie.close (tie.spec (search rules) (search rules) returns)
