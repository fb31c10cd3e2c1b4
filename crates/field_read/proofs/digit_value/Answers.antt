-- `field_read::digit_value` meets its contract. Assumes nothing.
use Rattle.std.proofs.Common.{rules}
use Rattle.field.specs.Digits.{digit_value}
use Rattle.field_read.proofs.digit_value.Goals as goal

pub returns-then-is_digit : goal.returns-then-is_digit
unfolding digit_value
returns-then-is_digit c = search rules

pub returns-else-is_digit : goal.returns-else-is_digit
unfolding digit_value
returns-else-is_digit c = search rules
