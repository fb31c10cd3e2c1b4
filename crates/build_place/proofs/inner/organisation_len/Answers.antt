use Rattle.std.proofs.Common.{length, ap, arith}
use Rattle.build.proofs.Laws.{no-organisation, an-organisation}
use Rattle.build_place.proofs.inner.organisation_len.Goals as goal

pub returns-then-not-there : goal.returns-then-not-there
returns-then-not-there c =
    let a = c.args in
    (ap length (no-organisation a.others.now a.there a.at c.if-not-there.true), omega arith)

pub returns : goal.returns
returns c =
    let a = c.args in
    let whole = an-organisation a.others.now a.there a.at c.if-not-there.false in
    (omega (arith, whole), omega arith)
