use Rattle.changes_list.specs.Listing.{letter_answer}
use Rattle.refusal.proofs.Outcomes.{after-value}
use Rattle.refusal.proofs.Passed.{after-passed}
use Rattle.changes_list.proofs.letter_of.Goals as goal

pub returns : goal.returns
unfolding letter_answer
returns c =
    rw (c.letter_at.ensures, c.wanted_at.ensures)
    (after-value _ _ _ c.check_points.ensures _ c.in_ok-check_points.was)

pub returns-in_err-check_points : goal.returns-in_err-check_points
unfolding letter_answer
returns-in_err-check_points c =
    after-passed _ _ c.check_points.ensures c.in_err-check_points.was c.from_residual.ensures.1
