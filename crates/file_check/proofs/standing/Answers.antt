use Rattle.std.proofs.Common.{arith}
use Rattle.file.specs.Formats.{format_of}
use Rattle.file_check.proofs.Laws.{onward-next}
use Rattle.file_check.proofs.standing.Goals as goal

pub loop-i-preserved : goal.loop-i-preserved
loop-i-preserved c =
    onward-next (format_of c.args.kind) c.args.file.now c.args.n c.args.from c.loop-i.i c.loop-i.invariant (omega arith)
    (c.is_standing.ensures c.if-not-is_standing.false)
