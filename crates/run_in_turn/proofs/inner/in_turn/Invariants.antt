use Rattle.run_in_turn.proofs.Along.{Along}
use Rattle.run_in_turn.proofs.inner.in_turn.Given as goal

abbrev pub invariant-loop-done : goal.invariant-loop-done
invariant-loop-done g l =
    Along g.T.InTurn.asking g.T.InTurn.is_next l.initial.turns l.count l.initial.out l.done l.at l.turns l.out
