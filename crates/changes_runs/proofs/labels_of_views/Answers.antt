use mathlib.Core.Path.{sym, ◌∙◌}
use Rattle.refusal.proofs.Outcomes.{afterwards-refused}
use Rattle.ask.specs.Runs.{views_run}
use Rattle.changes_label.proofs.Laws.{table-accepted}
use Rattle.changes_runs.proofs.Laws.{views-by-place}
use Rattle.refusal.specs.Answer.{refusal}
use Rattle.refusal.proofs.Passed.{said-passed}
use Rattle.changes_runs.proofs.labels_of_views.Goals as goal

pub run_places-requires : goal.run_places-requires
run_places-requires c =
    let a = c.args in
    table-accepted a.table.now a.points.now (sym c.check_pair.ensures ∙ c.in_ok-check_pair.was)

pub returns : goal.returns
returns c =
    let a = c.args in
    c.run_places.ensures
    ∙ views-by-place a.table.now a.points.now (sym c.check_pair.ensures ∙ c.in_ok-check_pair.was) a.first
    a.count a.out.now

pub returns-in_err-check_pair : goal.returns-in_err-check_pair
unfolding views_run
returns-in_err-check_pair c =
    let a = c.args in
    said-passed _ c.from_residual.ensures.1
    ∙ sym (afterwards-refused refusal a.out.now _ (sym c.check_pair.ensures ∙ c.in_err-check_pair.was))
