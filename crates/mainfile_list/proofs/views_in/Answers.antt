use mathlib.Core.Path.{◌∙◌}
use Rattle.refusal.proofs.Outcomes.{after-value, after-refused}
use Rattle.refusal.proofs.Passed.{passed-on}
use Rattle.mainfile_list.proofs.views_in.Goals as goal

pub returns : goal.returns
returns c =
    rw c.all_in-all.ensures.many (after-value _ _ _ c.check_set.ensures _ c.in_ok-check_set.was)

pub returns-in_err-check_set : goal.returns-in_err-check_set
returns-in_err-check_set c =
    passed-on _ _ c.from_residual.ensures.1
    ∙ (after-refused _ _ _ c.check_set.ensures _ _ c.in_err-check_set.was)
