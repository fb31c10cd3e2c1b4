use Rattle.std.proofs.Common.{sym, ◌∙◌, arith}
use Rattle.label.proofs.Going.{going-room, going_step, going_end}
use Rattle.van_fold.proofs.Writes.{line-going, line-none}
use Rattle.van_fold.proofs.inner.write_text.Goals as goal

-- src/inner.rt:130:9
pub line_at-i-requires : goal.line_at-i-requires
line_at-i-requires c =
    going-room _ _
    (line-going _ c.loop-rest.invariant c.first_line.ensures.line c.first_line.ensures.left
    (sym c.is_empty.ensures ∙ c.loop-rest-test.true)) (omega arith)

-- src/inner.rt:128:5
pub loop-rest-preserved : goal.loop-rest-preserved
loop-rest-preserved c =
    going_step _
    (line-going _ c.loop-rest.invariant c.first_line.ensures.line c.first_line.ensures.left
    (sym c.is_empty.ensures ∙ c.loop-rest-test.true))
    c.line_at-i.ensures (omega arith)

-- src/inner.rt:122:1
pub returns : goal.returns
returns c = going_end (line-none _ c.loop-rest.invariant (sym c.is_empty.ensures ∙ c.loop-rest-test.false))
