-- `field_read::value_of_eight` meets its contract. Assumes nothing.
use Rattle.std.proofs.Common.{◌∙◌}
use Rattle.field_read.proofs.Nine.{eight-says}
use Rattle.field_read.proofs.value_of_eight.Goals as goal

pub returns-then-are_digits : goal.returns-then-are_digits
returns-then-are_digits c = c.value_at.ensures ∙ eight-says c.args.s.now c.requires
