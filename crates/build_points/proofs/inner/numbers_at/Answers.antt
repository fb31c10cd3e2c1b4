use Rattle.std.proofs.Common.{arith}
use Rattle.label.proofs.Puts.{put_then}
use Rattle.build_points.proofs.inner.numbers_at.Goals as goal

pub returns : goal.returns
returns c =
    let one = put_then c.byte_at-i.ensures c.word_at-j.ensures (omega (arith, c.requires)) in
    let both = put_then one c.word_at-k.ensures (omega (arith, c.requires)) in
    put_then both c.short_at.ensures (omega (arith, c.requires))
