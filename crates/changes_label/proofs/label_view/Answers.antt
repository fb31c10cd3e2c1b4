use mathlib.Core.Path.{sym, ◌∙◌}
use mathlib.Core.List.{[]}
use Rattle.refusal.proofs.Outcomes.{afterwards-refused}
use Rattle.ask.specs.Labels.{view_label}
use Rattle.changes_label.proofs.Laws.{table-accepted, wanted-place, view-by-place}
use Rattle.refusal.specs.Answer.{refusal}
use Rattle.refusal.proofs.Passed.{said-passed}
use Rattle.changes_label.proofs.label_view.Goals as goal

pub label_at-requires : goal.label_at-requires
label_at-requires c =
    let a = c.args in
    let taken = sym c.check_pair.ensures ∙ c.in_ok-check_pair.was in
    rw c.wanted_at-place.ensures
    (wanted-place a.table.now a.points.now [] a.view (table-accepted a.table.now a.points.now taken))

pub returns : goal.returns
returns c =
    let a = c.args in
    let taken = sym c.check_pair.ensures ∙ c.in_ok-check_pair.was in
    rw c.wanted_at-place.ensures at c.label_at.ensures
    ∙ view-by-place a.table.now a.points.now taken a.view a.out.now

pub returns-in_err-check_pair : goal.returns-in_err-check_pair
unfolding view_label
returns-in_err-check_pair c =
    let a = c.args in
    said-passed _ c.from_residual.ensures.1
    ∙ sym (afterwards-refused refusal a.out.now _ (sym c.check_pair.ensures ∙ c.in_err-check_pair.was))
