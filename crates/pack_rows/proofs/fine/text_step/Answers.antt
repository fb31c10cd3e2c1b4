-- Assumes nothing.
use Rattle.std.proofs.Common.{refl, arith}
use Rattle.pack_rows.specs.Steps.{Stepped}
use Rattle.pack_rows.proofs.FineLaws.{if-given}
use Rattle.pack_rows.proofs.StepLaws.{text-stepped}
use Rattle.pack_rows.proofs.fine.text_step.Goals as goal

pub returns : goal.returns
returns c =
    let a = c.args in
    let end = c.text_end-end.ensures.0 in
    if-given (Stepped a.rows.now a.at) c.then_some.ensures (λ e.
    text-stepped a.rows.now a.at (omega arith) c.requires.2.1 a.width c.requires.1 c.requires.2.0 _
    c.low-odds.result end refl (rw end at c.if-rows-end.false) c.low-odds.ensures.0 (c.ends_good.ensures e))
