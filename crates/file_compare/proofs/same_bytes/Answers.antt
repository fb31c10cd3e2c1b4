use Rattle.std.proofs.Common.{sym}
use Rattle.file_compare.proofs.Laws.{other-lengths}
use Rattle.file_compare.proofs.same_bytes.Goals as goal

pub returns-then-a-b : goal.returns-then-a-b
returns-then-a-b c = sym (other-lengths c.args.a.now c.args.b.now c.if-a-b.true)
