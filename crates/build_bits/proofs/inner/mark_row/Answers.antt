use Rattle.build_bits.proofs.Marks.{set-marks}
use Rattle.build_bits.proofs.inner.mark_row.Goals as goal

pub returns-then-row-ne0 : goal.returns-then-row-ne0
returns-then-row-ne0 c = λ n h. set-marks c.args.bits.now c.mark.new.bits c.args.row c.mark.ensures n h c.if-row-ne0.true
