-- `field_read::value_by_digits` meets its contract. Assumes nothing.
use Rattle.std.proofs.Common.{sym, ◌∙◌, arith}
use Rattle.field.specs.Digits.{value}
use Rattle.field.proofs.Values.{value-whole}
use Rattle.field_read.proofs.value_by_digits.Goals as goal

pub returns-then-s-gt9 : goal.returns-then-s-gt9
unfolding value
returns-then-s-gt9 c = c.nine_digits.ensures

pub returns-else-s-gt9 : goal.returns-else-s-gt9
returns-else-s-gt9 c = c.nine_digits-else-s-gt9.ensures ∙ sym (value-whole c.args.s.now (omega arith))
