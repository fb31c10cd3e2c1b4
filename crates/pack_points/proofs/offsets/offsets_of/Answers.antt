-- Assumes nothing.
use Rattle.std.proofs.Common.{◌∙◌, sym, arith, rules}
use Rattle.pack.specs.Opening.{offset_kinds}
use Rattle.pack_points.proofs.PointLaws.{offsets-step}
use Rattle.pack_points.proofs.offsets.offsets_of.Goals as goal

pub loop-n-preserved : goal.loop-n-preserved
loop-n-preserved g c =
    c.loop-n.invariant
    ∙ offsets-step c.args.pack.now c.args.rest c.loop-n.n offset_kinds (omega arith)
    (sym (rw c.offset_of.ensures.0 at (c.requires.judges.right _ _ (search rules) (omega arith) _ c.judge.ensures)) ∙ c.if-not-judge.false)
