-- `field_test::text_fault` meets its contract. Assumes nothing.
use Rattle.std.proofs.Common.{rules}
use Rattle.field.specs.Text.{text_fault}
use Rattle.field_test.proofs.text_fault.Goals as goal

pub returns-then-all_are : goal.returns-then-all_are
unfolding text_fault
returns-then-all_are c = search rules

pub returns-else-all_are : goal.returns-else-all_are
unfolding text_fault
returns-else-all_are c = search rules

pub returns-else-starts_blank : goal.returns-else-starts_blank
unfolding text_fault
returns-else-starts_blank c = search rules
