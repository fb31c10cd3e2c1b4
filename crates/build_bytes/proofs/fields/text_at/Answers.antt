use Rattle.std.proofs.Common.{arith}
use Rattle.field.proofs.Fronts.{text_in-bound}
use Rattle.build_bytes.proofs.fields.text_at.Goals as goal

pub sized_at-requires : goal.sized_at-requires
sized_at-requires c =
    let a = c.args in
    rw c.read_text-t.ensures (omega (arith, text_in-bound a.rec.now a.start a.end, c.requires.0), c.requires.1)
