use Rattle.std.proofs.Common.{arith}
use Rattle.csv_read.proofs.Checked.{checking-step, checked-bad, checked-fine, checked-long}
use Rattle.csv_read.proofs.check_csv.Goals as goal

pub returns-in-Err : goal.returns-in-Err
returns-in-Err c =
    let faulty = c.in-Err.ensures in
    rw c.into.ensures (checked-bad c.loop-at.invariant c.loop-at-test.true faulty.is (λ z. omega (arith, faulty.some)))

pub loop-at-preserved : goal.loop-at-preserved
loop-at-preserved c = checking-step c.loop-at.invariant c.loop-at-test.true c.in-Ok.ensures

pub returns-then-fit : goal.returns-then-fit
returns-then-fit c = checked-fine c.loop-at.invariant c.loop-at-test.false c.if-fit.true

pub returns : goal.returns
returns c = rw c.into-2.ensures (checked-long c.loop-at.invariant c.loop-at-test.false c.if-fit.false)
