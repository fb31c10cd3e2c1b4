use Rattle.std.proofs.Common.{arith}
use Rattle.run_in_turn.proofs.Along.{along_start, along-stop, along_step, along_end}
use Rattle.run_in_turn.proofs.inner.in_turn.Goals as goal

pub loop-done-init : goal.loop-done-init
loop-done-init g c = along_start

pub returns-in-Err : goal.returns-in-Err
returns-in-Err g c k n =
    along-stop c.loop-done.invariant c.loop-done-test.true c.ask_next.ensures.asked k n c.in-Err.is

pub loop-done-preserved : goal.loop-done-preserved
loop-done-preserved g c =
    let turn = c.in-Ok.ensures in
    along_step c.loop-done.invariant c.loop-done-test.true c.ask_next.ensures.asked c.in-Ok.is
    (omega (arith, turn.fits, c.ask_next.auto.out)) c.ask_next.auto.out turn.goes_on c.requires.0 c.requires.1

pub returns : goal.returns
returns g c k n = along_end c.loop-done.invariant (omega arith) k n
