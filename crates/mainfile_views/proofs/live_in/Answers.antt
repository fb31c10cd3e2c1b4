use Rattle.refusal.proofs.Outcomes.{after-value}
use Rattle.mainfile_views.specs.Range.{live_answer}
use Rattle.refusal.proofs.Passed.{after-passed}
use Rattle.mainfile_views.proofs.live_in.Goals as goal

pub returns : goal.returns
unfolding live_answer
returns c =
    rw c.live_at.ensures (after-value _ _ _ c.check_main.ensures _ c.in_ok-check_main.was)

pub returns-in_err-check_main : goal.returns-in_err-check_main
unfolding live_answer
returns-in_err-check_main c =
    after-passed _ _ c.check_main.ensures c.in_err-check_main.was c.from_residual.ensures.1
