-- `label_lines::inner::put_place` meets its contract: nothing of no name, and else the front, the name, what stands beside it and the end.
-- Assumes nothing.
use borrow.Author.Rules.{rules}
use mathlib.Core.Path.{sym, ◌∙◌}
use Rattle.label.specs.Spans.{text_in2}
use Rattle.label.proofs.Puts.{wrote, wrote_as, wrote_none}
use Rattle.label.specs.Put.{front_text, place_in}
use Rattle.label.proofs.Places.{place_none}
use Rattle.label.proofs.Pieces.{place_pieces, place-made}
use Rattle.label.proofs.Walk.{Begun, begun-front, room, step, last}
use Rattle.label_lines.proofs.inner.put_place.Statement.{statement}
use Rattle.label_lines.proofs.inner.put_place.Tie as tie

returns : tie.Need-returns-then-text_len-eq0
returns c =
    let g = c.args in
    let text = text_in2 g.a.now g.b.now in
    wrote_as
    (place_none g.f.pending (front_text g.a.now g.b.now g.f) (text g.name) (text g.tail)
    (sym c.text_len.ensures.0 ∙ c.if-text_len-eq0.true))
    (wrote_none g.out.now)

at-lead : (c : tie.Else-text_len-eq0) → let g = c.args in
    let a = g.a.now in let b = g.b.now in
    Begun (place_in a b g.f g.name g.tail) (place_pieces a b g.f g.name g.tail) g.out.now 0
at-lead c =
    let start = c in
    let g = start.args in
    begun-front
    (place-made _ _ g.f g.name g.tail (λ z. c.if-text_len-eq0.false (c.text_len.ensures.0 ∙ z))) start.requires

lead-at-requires : tie.Need-lead_at-i-requires
lead-at-requires c κs = room (at-lead c.before)

text-at-requires : tie.Need-text_at-j-requires
text-at-requires c κs =
    let lead = c in
    room (step (at-lead lead.before.before.before.before.before) lead.lead_at-i.ensures)

tail-at-requires : tie.Need-tail_at-k-requires
tail-at-requires c κs =
    let name = c in
    let lead = name in
    room (step (step (at-lead lead.before.before.before.before.before.before.before.before.before) lead.lead_at-i.ensures) name.text_at-j.ensures)

byte-at-requires : tie.Need-byte_at-requires
byte-at-requires c κs =
    let tail = c in
    let name = tail in
    let lead = name.before.before.before.before in
    let two = step (step (at-lead lead.before.before.before.before.before.before.before.before.before) lead.lead_at-i.ensures) name.text_at-j.ensures in
    room (step two tail.tail_at-k.ensures)

returns-2 : tie.Need-returns
returns-2 c =
    let end = c in
    let tail = end in
    let name = tail in
    let lead = name in
    let two = step (step (at-lead lead.before.before.before.before.before.before.before.before.before.before.before.before.before.before.before.before) lead.lead_at-i.ensures) name.text_at-j.ensures in
    wrote (last (step two tail.tail_at-k.ensures) end.byte_at.ensures)

pub put_place_spec : {M : Type 1} → statement M
put_place_spec =
    tie.close
    (tie.spec (search rules) returns lead-at-requires text-at-requires tail-at-requires byte-at-requires (search rules) returns-2)
