-- `field_test::filled_fault` meets its contract. Assumes nothing.
use Rattle.std.proofs.Common.{rules}
use Rattle.field.specs.Text.{text_fault, filled_fault}
use Rattle.field_test.proofs.filled_fault.Goals as goal

pub returns-then-starts_blank : goal.returns-then-starts_blank
unfolding filled_fault text_fault
returns-then-starts_blank c = search rules

pub returns-else-starts_blank : goal.returns-else-starts_blank
unfolding filled_fault text_fault
returns-else-starts_blank c = search rules
