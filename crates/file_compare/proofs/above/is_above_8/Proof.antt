-- `file_compare::above::is_above_8` meets its contract. Assumes nothing.
use borrow.Author.Rules.{rules}
use borrow.Author.Tests.{ltb-true}
use Rattle.file_compare.proofs.Order.{above-yes}
use Rattle.file_compare.proofs.Words.{eight-above}
use Rattle.file_compare.proofs.above.is_above_8.Statement.{statement}
use Rattle.file_compare.proofs.above.is_above_8.Tie as tie

returns : tie.Need-returns
returns c =
    let last = c in
    let start = last in
    let a = start.args.a.now in
    let b = start.args.b.now in
    λ e.
    above-yes a b (eight-above a b 0 start.requires.0 start.requires.1 _ _ c.weight_at-2.ensures last.weight_at.ensures (ltb-true _ _ e))

pub is_above_8_spec : {M : Type 1} → statement M
is_above_8_spec = tie.close (tie.spec (search rules) (search rules) returns)
