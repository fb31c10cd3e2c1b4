-- `label_lines::inner::put_pair` meets its contract: the text, a space, the other text and its end.
-- Assumes nothing.
use borrow.Author.Rules.{rules}
use Rattle.label.specs.Put.{pair_in}
use Rattle.label.proofs.Puts.{wrote}
use Rattle.label.proofs.Pieces.{pair_pieces, pair_made}
use Rattle.label.proofs.Walk.{Begun, begun-front, room, step, last}
use Rattle.label_lines.proofs.inner.put_pair.Statement.{statement}
use Rattle.label_lines.proofs.inner.put_pair.Tie as tie

at-start : (c : tie.Start) → let g = c.args in let a = g.a.now in let b = g.b.now in
    Begun (pair_in a b g.s g.t) (pair_pieces a b g.s g.t) g.out.now 0
at-start c = begun-front (pair_made _ _ c.args.s c.args.t) c.requires

text-at-requires : tie.Need-text_at-i-requires
text-at-requires c κs = room (at-start c.before.before.before.before)

byte-at-requires : tie.Need-byte_at-j-requires
byte-at-requires c κs =
    let text = c in
    room (step (at-start text.before.before.before.before.before.before.before.before) text.text_at-i.ensures)

text-at-requires-2 : tie.Need-text_at-k-requires
text-at-requires-2 c κs =
    let space = c in
    let text = space.before.before.before.before in
    room (step (step (at-start text.before.before.before.before.before.before.before.before) text.text_at-i.ensures) space.byte_at-j.ensures)

byte-at-requires-2 : tie.Need-byte_at-requires
byte-at-requires-2 c κs =
    let other = c in
    let space = other.before.before.before.before in
    let text = space.before.before.before.before in
    let one = step (at-start text.before.before.before.before.before.before.before.before) text.text_at-i.ensures in
    room (step (step one space.byte_at-j.ensures) other.text_at-k.ensures)

returns : tie.Need-returns
returns c =
    let end = c in
    let other = end in
    let space = other in
    let text = space in
    let one = step (at-start text.before.before.before.before.before.before.before.before.before.before.before.before.before.before.before.before.before.before.before) text.text_at-i.ensures in
    wrote (last (step (step one space.byte_at-j.ensures) other.text_at-k.ensures) end.byte_at.ensures)

pub put_pair_spec : {M : Type 1} → statement M
put_pair_spec =
    tie.close
    (tie.spec text-at-requires byte-at-requires text-at-requires-2 byte-at-requires-2 (search rules) returns)
