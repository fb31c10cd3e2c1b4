-- `field_test::fault_of` meets its contract: where every byte passes there is no fault. Assumes nothing.
use Rattle.std.proofs.Common.{sym, ◌∙◌}
use Rattle.field.specs.Test.{member}
use Rattle.field.proofs.Faults.{no-fault}
use Rattle.field_test.proofs.fault_of.Goals as goal

pub returns-then-all_in : goal.returns-then-all_in
returns-then-all_in c =
    let a = c.args in
    sym (no-fault (member a.low a.high a.from a.to) a.s.now 1 (sym c.all_in.ensures ∙ c.if-all_in.true))
