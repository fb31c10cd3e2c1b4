use mathlib.Core.Path.{sym, ◌∙◌}
use Rattle.ask.specs.Labels.{code_label}
use Rattle.ask.proofs.Laws.{by-bad-code, by-refused}
use Rattle.changes_pair.specs.Pair.{pair_of}
use Rattle.changes_label.proofs.Laws.{table-accepted, wanted-place, code-by-place}
use Rattle.refusal.specs.Answer.{refusal}
use Rattle.refusal.proofs.Passed.{said-passed}
use Rattle.changes_label.proofs.label_in_code.Goals as goal

pub returns-then-outward_fault-ne0 : goal.returns-then-outward_fault-ne0
unfolding code_label
returns-then-outward_fault-ne0 c =
    let a = c.args in
    let taken = sym c.check_pair.ensures ∙ c.in_ok-check_pair.was in
    rw c.into.ensures
    (sym
    (by-bad-code refusal a.code.now a.out.now _ (pair_of a.table.now a.points.now) taken
    (rw c.outward_fault.ensures at c.if-outward_fault-ne0.true)))

pub label_at-requires : goal.label_at-requires
label_at-requires c =
    let a = c.args in
    let taken = sym c.check_pair.ensures ∙ c.in_ok-check_pair.was in
    rw c.wanted_at-place.ensures
    (wanted-place a.table.now a.points.now a.code.now a.k
    (table-accepted a.table.now a.points.now taken))

pub returns : goal.returns
returns c =
    let a = c.args in
    let taken = sym c.check_pair.ensures ∙ c.in_ok-check_pair.was in
    rw c.wanted_at-place.ensures at c.label_at.ensures
    ∙ code-by-place a.table.now a.points.now taken a.k a.out.now a.code.now
    (rw c.outward_fault.ensures at c.if-outward_fault-ne0.false)

pub returns-in_err-check_pair : goal.returns-in_err-check_pair
unfolding code_label
returns-in_err-check_pair c =
    let a = c.args in
    said-passed _ c.from_residual.ensures.1
    ∙ (sym
    (by-refused refusal a.code.now a.out.now _ (pair_of a.table.now a.points.now)
    (sym c.check_pair.ensures ∙ c.in_err-check_pair.was)))
