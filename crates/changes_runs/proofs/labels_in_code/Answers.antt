use mathlib.Core.Path.{sym, ◌∙◌}
use Rattle.ask.specs.Runs.{code_run}
use Rattle.ask.proofs.Laws.{by-bad-code, by-refused}
use Rattle.changes_pair.specs.Pair.{pair_of}
use Rattle.changes_label.proofs.Laws.{table-accepted}
use Rattle.changes_runs.proofs.Laws.{in-code-by-place}
use Rattle.refusal.specs.Answer.{refusal}
use Rattle.refusal.proofs.Passed.{said-passed}
use Rattle.changes_runs.proofs.labels_in_code.Goals as goal

pub returns-then-outward_fault-ne0 : goal.returns-then-outward_fault-ne0
unfolding code_run
returns-then-outward_fault-ne0 c =
    let a = c.args in
    rw c.into.ensures
    (sym
    (by-bad-code refusal a.code.now a.out.now _ (pair_of a.table.now a.points.now)
    (sym c.check_pair.ensures ∙ c.in_ok-check_pair.was) (rw c.outward_fault.ensures at c.if-outward_fault-ne0.true)))

pub run_places-requires : goal.run_places-requires
run_places-requires c =
    let a = c.args in
    table-accepted a.table.now a.points.now (sym c.check_pair.ensures ∙ c.in_ok-check_pair.was)

pub returns : goal.returns
returns c =
    let a = c.args in
    c.run_places.ensures
    ∙ in-code-by-place a.table.now a.points.now (sym c.check_pair.ensures ∙ c.in_ok-check_pair.was) a.first
    a.count a.out.now a.code.now (rw c.outward_fault.ensures at c.if-outward_fault-ne0.false)

pub returns-in_err-check_pair : goal.returns-in_err-check_pair
unfolding code_run
returns-in_err-check_pair c =
    let a = c.args in
    said-passed _ c.from_residual.ensures.1
    ∙ (sym
    (by-refused refusal a.code.now a.out.now _ (pair_of a.table.now a.points.now)
    (sym c.check_pair.ensures ∙ c.in_err-check_pair.was)))
