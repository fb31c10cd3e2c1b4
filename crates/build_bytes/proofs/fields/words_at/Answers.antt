use Rattle.std.proofs.Common.{◌+◌, drop, arith}
use Rattle.pack.specs.Sectors.{counts_bytes}
use Rattle.label.proofs.Going.{going-as, going_step}
use Rattle.build.proofs.Counts.{counts_step}
use Rattle.build_bytes.proofs.fields.words_at.Goals as goal

pub loop-n-preserved : goal.loop-n-preserved
loop-n-preserved c =
    let ns = c.args.ns.now in
    let i = c.loop-n.n-index in
    going_step (counts_bytes (drop (i + 1) ns)) (going-as (counts_step ns i (omega arith)) c.loop-n.invariant) c.word_at-end.ensures c.requires
