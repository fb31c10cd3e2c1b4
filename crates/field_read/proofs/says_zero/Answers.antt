-- `field_read::says_zero` meets its contract. Assumes nothing.
use Rattle.std.proofs.Common.{◌∙◌, arith}
use Rattle.field.proofs.Values.{nine-zero, whole-zero}
use Rattle.field_read.proofs.says_zero.Goals as goal

pub returns-then-s-gt9 : goal.returns-then-s-gt9
returns-then-s-gt9 c = c.all_zero.ensures ∙ nine-zero c.args.s.now

pub returns-else-s-gt9 : goal.returns-else-s-gt9
returns-else-s-gt9 c = c.all_zero-else-s-gt9.ensures ∙ whole-zero c.args.s.now (omega arith)
