-- `field_read::value_of_nine` meets its contract. Assumes nothing.
use Rattle.std.proofs.Common.{arith, get_or}
use Rattle.field.proofs.Values.{digit-to-9}
use Rattle.field_read.proofs.Nine.{nine-says, nine-fits}
use Rattle.field_read.proofs.value_of_nine.Goals as goal

pub overflow_mul-result : goal.overflow_mul-result
overflow_mul-result c = omega (arith, c.digit_value.ensures, digit-to-9 (get_or c.args.s.now 0 0))

pub overflow_add-result : goal.overflow_add-result
overflow_add-result c =
    omega (arith, c.value_at.ensures, c.digit_value.ensures, nine-fits c.args.s.now c.requires)

pub returns-then-are_digits : goal.returns-then-are_digits
returns-then-are_digits c = rw (c.value_at.ensures, c.digit_value.ensures) (nine-says c.args.s.now c.requires)
