-- `field_outward::outward_fault` meets its contract. Assumes nothing.
use Rattle.std.proofs.Common.{sym}
use Rattle.field_outward.proofs.Codes.{not-four}
use Rattle.field_outward.proofs.outward_fault.Goals as goal

pub returns-then-code-ne4 : goal.returns-then-code-ne4
returns-then-code-ne4 c = sym (not-four c.args.code.now c.if-code-ne4.true)
