-- The loop of `field_read::nine_digits`: the value so far, below 10 to the number of digits read, goes on over the digits left.
-- Assumes nothing.
use Rattle.std.proofs.Common.{◌≡◌, ◌<◌, ◌^◌, drop}
use Rattle.field.specs.Digits.{value_from}
use Rattle.field_read.proofs.nine_digits.Given as goal

abbrev pub invariant-loop-b : goal.invariant-loop-b
invariant-loop-b l =
    record {
      small : l.v < 10 ^ l.b-index;
      goes_on : value_from 0 l.s ≡ value_from l.v (drop l.b-index l.s);
    }
