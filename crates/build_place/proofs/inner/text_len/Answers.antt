use Rattle.std.proofs.Common.{length, ap, arith}
use Rattle.field.proofs.Fronts.{text_in-bound}
use Rattle.build_place.proofs.inner.text_len.Goals as goal

pub returns : goal.returns
returns c =
    let a = c.args in
    let t = ap length c.read_text.ensures in
    (omega (arith, t), omega (arith, t, text_in-bound a.rec.now a.from a.to))
