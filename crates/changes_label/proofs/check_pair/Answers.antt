use mathlib.Core.Path.{◌∙◌}
use Rattle.refusal.proofs.Outcomes.{after-value, after-refused}
use Rattle.refusal.proofs.Passed.{passed-on}
use Rattle.changes_label.proofs.check_pair.Goals as goal

pub returns : goal.returns
returns c =
    rw c.check_points.ensures (after-value _ _ _ c.check_table.ensures _ c.in_ok-check_table.was)

pub returns-in_err-check_table : goal.returns-in_err-check_table
returns-in_err-check_table c =
    passed-on _ _ c.from_residual.ensures.1
    ∙ (after-refused _ _ _ c.check_table.ensures _ _ c.in_err-check_table.was)
