use mathlib.Core.Path.{sym, ◌∙◌}
use Rattle.refusal.proofs.Outcomes.{afterwards-refused}
use Rattle.pack_open.proofs.Opened.{opened-all, opened-sized}
use Rattle.pack_runs.specs.Runs.{pack_run}
use Rattle.pack_runs.proofs.Laws.{points-run}
use Rattle.refusal.specs.Answer.{refusal}
use Rattle.refusal.proofs.Passed.{said-passed}
use Rattle.pack_runs.proofs.labels_of_points.Goals as goal

pub run_points-requires : goal.run_points-requires
run_points-requires c =
    let a = c.args in
    let value = sym c.open_pack.ensures ∙ c.in_ok-points.was in
    (opened-sized a.pack.now _ value, (opened-all a.pack.now _ value).counted)

pub returns : goal.returns
returns c =
    let a = c.args in
    c.run_points.ensures
    ∙ sym (points-run a.pack.now a.first a.count a.out.now (sym c.open_pack.ensures ∙ c.in_ok-points.was))

pub returns-in_err-points : goal.returns-in_err-points
unfolding pack_run
returns-in_err-points c =
    let a = c.args in
    said-passed _ c.from_residual.ensures.1
    ∙ sym (afterwards-refused refusal a.out.now _ (sym c.open_pack.ensures ∙ c.in_err-points.was))
