-- Assumes nothing.
use Rattle.std.proofs.Common.{◌&&◌, refl, arith}
use Rattle.field.proofs.Tests.{and_left, and_right}
use Rattle.pack_rows.specs.Steps.{Stepped}
use Rattle.pack_rows.proofs.FineLaws.{if-given}
use Rattle.pack_rows.proofs.StepLaws.{locality-stepped}
use Rattle.pack_rows.proofs.fine.locality_step.Goals as goal

pub returns : goal.returns
returns c =
    let a = c.args in
    let dependent = c.text_end-dependent.ensures.0 in
    let double = rw dependent at c.text_end-double.ensures.0 in
    let end = rw double at c.text_end-end.ensures.0 in
    if-given (Stepped a.rows.now a.at) c.then_some.ensures (λ e.
    let ends = and_left _ _ e in
    let others = and_right c.ends_good-towns.result _ ends in
    locality-stepped a.rows.now a.at (omega arith) (omega (arith, c.requires.1)) c.requires.1 _
    c.low.result c.low-2.result c.low-3.result end refl (rw end at c.if-rows-end.false) c.low.ensures.0
    (rw dependent at c.low-2.ensures.0) (rw double at c.low-3.ensures.0)
    (c.ends_good-towns.ensures (and_left _ _ ends))
    (rw dependent at (c.ends_good-dependents.ensures (and_left _ _ others)))
    (rw double at (c.ends_good-doubles.ensures (and_right c.ends_good-dependents.result _ others)))
    (rw (dependent, double) at
    (and_right (c.ends_good-towns.result && (c.ends_good-dependents.result && c.ends_good-doubles.result)) _ e)))
