-- `field_test::digits_fault` meets its contract: 1 to 0 takes no byte away. Assumes nothing.
use Rattle.std.proofs.Common.{◌∙◌}
use Rattle.field.specs.Test.{member}
use Rattle.field.specs.Digits.{digit, digits_fault}
use Rattle.field.proofs.Tests.{one-range}
use Rattle.field.proofs.Faults.{fault-same}
use Rattle.field_test.proofs.digits_fault.Goals as goal

pub returns : goal.returns
unfolding digits_fault
returns c = c.fault_of.ensures ∙ fault-same (member 48 57 1 0) digit (one-range 48 57) c.args.s.now 1
