-- `label_lines::inner::put_box` meets its contract: nothing of no box, and else `PO BOX `, the box and its end.
-- Assumes nothing.
use borrow.Author.Rules.{rules}
use mathlib.Core.Path.{sym, ◌∙◌}
use Rattle.label.specs.Put.{box_in}
use Rattle.label.specs.Spans.{text_in2}
use Rattle.label.proofs.Puts.{wrote, wrote_as, wrote_none}
use Rattle.label.proofs.Places.{box-none}
use Rattle.label.proofs.Pieces.{box_pieces, box-made}
use Rattle.label.proofs.Walk.{Begun, begun-front, room, step, last}
use Rattle.label_lines.proofs.inner.put_box.Statement.{statement}
use Rattle.label_lines.proofs.inner.put_box.Tie as tie

returns : tie.Need-returns-then-text_len-eq0
returns c =
    let g = c.args in
    wrote_as (box-none (text_in2 g.a.now g.b.now g.s) (sym c.text_len.ensures.0 ∙ c.if-text_len-eq0.true))
    (wrote_none g.out.now)

at-box : (c : tie.Else-text_len-eq0) → let g = c.args in
    let a = g.a.now in let b = g.b.now in Begun (box_in a b g.s) (box_pieces a b g.s) g.out.now 0
at-box c =
    let start = c in
    begun-front (box-made _ _ start.args.s (λ z. c.if-text_len-eq0.false (c.text_len.ensures.0 ∙ z))) start.requires

bytes-at-requires : tie.Need-bytes_at-i-requires
bytes-at-requires c κs = room (at-box c.before.before.before)

text-at-requires : tie.Need-text_at-j-requires
text-at-requires c κs =
    let box = c in
    room (step (at-box box.before.before.before.before.before.before.before) box.bytes_at-i.ensures)

byte-at-requires : tie.Need-byte_at-requires
byte-at-requires c κs =
    let text = c in
    let box = text in
    room (step (step (at-box box.before.before.before.before.before.before.before.before.before.before.before) box.bytes_at-i.ensures) text.text_at-j.ensures)

returns-2 : tie.Need-returns
returns-2 c =
    let end = c in
    let text = end in
    let box = text in
    let two = step (step (at-box box.before.before.before.before.before.before.before.before.before.before.before.before.before.before) box.bytes_at-i.ensures) text.text_at-j.ensures in
    wrote (last two end.byte_at.ensures)

pub put_box_spec : {M : Type 1} → statement M
put_box_spec =
    tie.close
    (tie.spec (search rules) returns bytes-at-requires text-at-requires byte-at-requires (search rules) returns-2)
