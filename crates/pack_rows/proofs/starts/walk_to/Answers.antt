-- Assumes nothing.
use Rattle.std.proofs.Common.{arith}
use Rattle.pack_rows.proofs.WalkLaws.{row-rise, tells-next}
use Rattle.pack_rows.proofs.starts.walk_to.Goals as goal

pub loop-at-smaller : goal.loop-at-smaller
loop-at-smaller c = omega (arith, row-rise c.args.rows.now c.loop-at.at)

pub loop-at-preserved : goal.loop-at-preserved
loop-at-preserved c =
    λ n o p h t.
    rw c.row_end-at.ensures
    (tells-next c.args.rows.now n o h c.loop-at.at (omega arith) (c.loop-at.invariant n o p h t))
