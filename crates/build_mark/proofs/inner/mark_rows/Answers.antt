use Rattle.std.proofs.Common.{length, arith}
use Rattle.build_mark.proofs.Rows.{below_at}
use Rattle.build_mark.proofs.inner.mark_rows.Goals as goal

pub offset_bounds-marks-row : goal.offset_bounds-marks-row
offset_bounds-marks-row c = omega (arith, below_at (length c.args.marks.now) c.args.rows c.requires c.loop-row.row-index (omega arith))

pub bounds-marks-row : goal.bounds-marks-row
bounds-marks-row c = omega (arith, below_at (length c.args.marks.now) c.args.rows c.requires c.loop-row.row-index (omega arith))
