use Rattle.label.proofs.Puts.{room_as, put_then, put_as}
use Rattle.build_rows.proofs.Texts.{locality-bytes}
use Rattle.build_rows.proofs.used.texts_at.Goals as goal

pub returns-then-kind-eq1 : goal.returns-then-kind-eq1
returns-then-kind-eq1 c =
    let a = c.args in
    let same = locality-bytes a.s a.kind a.rec.now c.if-kind-eq1.true in
    put_as same (put_then c.text_at-i.ensures c.two_texts_at.ensures (room_as a.out.now a.at same c.requires.1))
