-- Assumes nothing.
use Rattle.std.proofs.Common.{◌∙◌, sym, arith}
use Rattle.pack_points.specs.Ready.{fields_fine}
use Rattle.pack_points.proofs.PointLaws.{each_step}
use Rattle.pack_points.proofs.points.fields_good.Goals as goal

pub loop-i-preserved : goal.loop-i-preserved
loop-i-preserved c =
    c.loop-i.invariant
    ∙ each_step (fields_fine c.args.pack.now) c.args.layout.point c.trailer_number-start.result c.trailer_number-count.result c.loop-i.i
    (omega arith) (sym c.point_good.ensures ∙ c.if-not-point_good.false)
