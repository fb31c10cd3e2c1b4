use mathlib.Core.Path.{sym, ◌∙◌}
use Rattle.ask.proofs.Laws.{by-good-code, by-bad-code, by-refused}
use Rattle.pack.specs.Cutting.{pack_built}
use Rattle.changes_pair.specs.Pair.{pair_of}
use Rattle.changes_build.proofs.Laws.{judged}
use Rattle.refusal.specs.Answer.{refusal}
use Rattle.refusal.proofs.Passed.{said-passed}
use Rattle.changes_build.proofs.build_pack.Goals as goal

pub returns-then-outward_fault-ne0 : goal.returns-then-outward_fault-ne0
unfolding pack_built
returns-then-outward_fault-ne0 c =
    let a = c.args in
    rw c.into.ensures
    (sym
    (by-bad-code refusal a.code.now a.out.now _ (pair_of a.table.now a.points.now)
    (sym c.check_pair.ensures ∙ c.in_ok-check_pair.was) (rw c.outward_fault.ensures at c.if-outward_fault-ne0.true)))

pub cut-requires : goal.cut-requires
cut-requires c =
    let a = c.args in
    judged a.table.now a.points.now a.code.now (sym c.check_pair.ensures ∙ c.in_ok-check_pair.was)
    (rw c.outward_fault.ensures at c.if-outward_fault-ne0.false)

pub returns : goal.returns
unfolding pack_built
returns c =
    let a = c.args in
    c.cut.ensures
    ∙ sym
    (by-good-code refusal a.code.now a.out.now _ (pair_of a.table.now a.points.now)
    (sym c.check_pair.ensures ∙ c.in_ok-check_pair.was) (rw c.outward_fault.ensures at c.if-outward_fault-ne0.false))

pub returns-in_err-check_pair : goal.returns-in_err-check_pair
unfolding pack_built
returns-in_err-check_pair c =
    let a = c.args in
    said-passed _ c.from_residual.ensures.1
    ∙ (sym
    (by-refused refusal a.code.now a.out.now _ (pair_of a.table.now a.points.now)
    (sym c.check_pair.ensures ∙ c.in_err-check_pair.was)))
