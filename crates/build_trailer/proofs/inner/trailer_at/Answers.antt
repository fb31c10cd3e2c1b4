use Rattle.std.proofs.Common.{List, ℕ, ap, arith}
use Rattle.pack.specs.Names.{newest}
use Rattle.pack.specs.Layout.{trailer_bytes}
use Rattle.pack.specs.Sectors.{counts_bytes}
use Rattle.label.proofs.Puts.{put_then, put_as, room_as}
use Rattle.build_trailer.proofs.inner.trailer_at.Goals as goal

pub returns : goal.returns
returns c =
    let a = c.args in
    let counted = ap (λ (ns : List ℕ). trailer_bytes newest a.rows a.start a.count a.code.now (counts_bytes ns)) c.count_digits-counts.ensures in
    let fits = room_as a.out.now a.at counted c.requires.1.1 in
    let two = put_then c.word_at-i.ensures c.word_at-j.ensures (omega (arith, fits)) in
    let three = put_then two c.word_at-k.ensures (omega (arith, fits)) in
    put_as counted (put_then three c.trailer_end_at.ensures fits)
