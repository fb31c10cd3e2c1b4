-- `field_read::nine_digits` meets its contract: each digit is at most 9, so that no sum is too large. Assumes nothing.
use Rattle.std.proofs.Common.{arith, get_or, ◌∙◌}
use Rattle.field.proofs.Values.{digit-to-9, value-step, power-step, power_small}
use Rattle.field_read.proofs.nine_digits.Goals as goal

pub overflow_mul-v : goal.overflow_mul-v
overflow_mul-v c = omega (arith, power_small c.loop-b.v c.loop-b.b-index c.loop-b.invariant.small (omega arith))

pub overflow_add-v : goal.overflow_add-v
overflow_add-v c =
    omega (
      arith,
      power_small c.loop-b.v c.loop-b.b-index c.loop-b.invariant.small (omega arith),
      c.digit_value.ensures,
      digit-to-9 (get_or c.args.s.now c.loop-b.b-index 0),
    )

pub loop-b-preserved : goal.loop-b-preserved
loop-b-preserved c =
    let s = c.args.s.now in
    let l = c.loop-b in
    record {
      small = rw c.digit_value.ensures (power-step l.v l.b-index _ l.invariant.small (digit-to-9 (get_or s l.b-index 0)));
      goes_on = l.invariant.goes_on ∙ (value-step s l.v l.b-index (omega arith) ∙ rw c.digit_value.ensures);
    }
