use Rattle.changes_list.specs.Listing.{views_answer}
use Rattle.refusal.proofs.Outcomes.{after-value}
use Rattle.refusal.proofs.Passed.{after-passed}
use Rattle.changes_list.proofs.views_in.Goals as goal

pub returns : goal.returns
unfolding views_answer
returns c =
    rw c.count_wanted.ensures (after-value _ _ _ c.check_points.ensures _ c.in_ok-check_points.was)

pub returns-in_err-check_points : goal.returns-in_err-check_points
unfolding views_answer
returns-in_err-check_points c =
    after-passed _ _ c.check_points.ensures c.in_err-check_points.was c.from_residual.ensures.1
