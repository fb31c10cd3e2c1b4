use Rattle.std.proofs.Common.{[], ◌∷◌}
use Rattle.label.specs.Put.{tail_text}
use Rattle.label.proofs.Places.{tail-some}
use Rattle.label.proofs.Walk.{Begun, begun, step, last}
use Rattle.label_pieces.proofs.inner.tail_bytes_at.Goals as goal

pub returns : goal.returns
returns c =
    let t = c.args.t.now in
    let start : Begun (tail_text t) ((32 ∷ []) ∷ t ∷ []) c.args.out.now c.args.at =
    begun (record { is = tail-some t c.if-t-eq0.false }) c.requires in
    last (step start c.byte_at-i.ensures) c.bytes_at.ensures
