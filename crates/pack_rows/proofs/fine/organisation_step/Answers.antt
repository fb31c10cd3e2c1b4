-- Assumes nothing.
use Rattle.std.proofs.Common.{refl, arith}
use Rattle.field.proofs.Tests.{and_left, and_right}
use Rattle.pack_rows.specs.Steps.{Stepped}
use Rattle.pack_rows.proofs.FineLaws.{if-given}
use Rattle.pack_rows.proofs.StepLaws.{organisation-stepped}
use Rattle.pack_rows.proofs.fine.organisation_step.Goals as goal

pub returns : goal.returns
returns c =
    let a = c.args in
    let department = c.text_end-department.ensures.0 in
    let end = rw department at c.text_end-end.ensures.0 in
    if-given (Stepped a.rows.now a.at) c.then_some.ensures (λ e.
    organisation-stepped a.rows.now a.at (omega arith) (omega (arith, c.requires.1)) c.requires.1 _
    c.low.result c.low-2.result end refl (rw end at c.if-rows-end.false) c.low.ensures.0
    (rw department at c.low-2.ensures.0) (c.ends_good-names.ensures (and_left _ _ e))
    (rw department at (c.ends_good-departments.ensures (and_right c.ends_good-names.result _ e))))
