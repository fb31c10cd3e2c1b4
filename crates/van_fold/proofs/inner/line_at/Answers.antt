use Rattle.label.proofs.Going.{going-left, going-room, going_step, going-last}
use Rattle.van_fold.proofs.Writes.{row-going, row_last}
use Rattle.van_fold.proofs.inner.line_at.Goals as goal

-- src/inner.rt:79:9
pub row_at-i-requires : goal.row_at-i-requires
row_at-i-requires c =
    going-room _ _
    (row-going _ c.loop-rest.invariant c.first_row.ensures.row c.first_row.ensures.left c.loop-rest-test.true) c.requires

-- src/inner.rt:77:5
pub loop-rest-preserved : goal.loop-rest-preserved
loop-rest-preserved c =
    going_step _
    (row-going _ c.loop-rest.invariant c.first_row.ensures.row c.first_row.ensures.left c.loop-rest-test.true)
    c.row_at-i.ensures c.requires

-- src/inner.rt:82:5
pub row_at-requires : goal.row_at-requires
row_at-requires c = going-left (row_last _ c.loop-rest.invariant c.loop-rest-test.false) c.requires

-- src/inner.rt:71:1
pub returns : goal.returns
returns c = going-last (row_last _ c.loop-rest.invariant c.loop-rest-test.false) c.row_at.ensures c.requires
