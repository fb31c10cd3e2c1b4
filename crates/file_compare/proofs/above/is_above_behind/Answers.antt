use Rattle.std.proofs.Common.{ap, arith, ◌∙◌}
use Rattle.std.specs.Ordering.{is_gt}
use Rattle.file_compare.proofs.Orderings.{above_ordering}
use Rattle.file_compare.proofs.Words.{eight-decides}
use Rattle.file_compare.proofs.above.is_above_behind.Goals as goal

pub returns-then-x-y : goal.returns-then-x-y
returns-then-x-y c =
    eight-decides c.args.a.now c.args.b.now c.args.i (omega arith) (omega arith) _ _
    c.weight_at-x.ensures c.weight_at-y.ensures c.requires.decided c.if-x-y.true

pub returns : goal.returns
returns c = c.is_gt.ensures ∙ (ap is_gt c.order_of.ensures ∙ above_ordering c.args.a.now c.args.b.now)
