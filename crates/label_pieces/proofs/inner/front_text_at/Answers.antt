use Rattle.label.specs.Put.{front_text}
use Rattle.label.proofs.Pieces.{front_pieces, front-made}
use Rattle.label.proofs.Walk.{Begun, begun, step, last}
use Rattle.label_pieces.proofs.inner.front_text_at.Goals as goal

pub returns : goal.returns
returns c =
    let a = c.args.a.now in
    let b = c.args.b.now in
    let f = c.args.f in
    let start : Begun (front_text a b f) (front_pieces a b f) c.args.out.now c.args.at =
    begun (front-made _ _ f) c.requires in
    last (step (step start c.number_at-i.ensures) c.text_at-j.ensures) c.tail_at.ensures
