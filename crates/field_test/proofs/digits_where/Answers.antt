-- `field_test::digits_where` meets its contract: the loop ends where the shorter of both ends. Assumes nothing.
use Rattle.std.proofs.Common.{sym, ◌∙◌, arith}
use Rattle.field_test.proofs.Laws.{where-end}
use Rattle.field_test.proofs.digits_where.Goals as goal

pub returns : goal.returns
returns c =
    sym
    (c.loop-i.invariant
    ∙ where-end c.args.s.now c.args.pattern.now c.loop-i.i c.loop-i.bad (omega (arith, c.lesser-i-end.ensures)))
