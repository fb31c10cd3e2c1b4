-- `label_lines::inner::put_line` meets its contract: nothing of no text, and else the text and its end.
-- Assumes nothing.
use borrow.Author.Rules.{rules}
use mathlib.Core.Path.{sym, ◌∙◌}
use Rattle.label.specs.Put.{line_in}
use Rattle.label.specs.Spans.{text_in2}
use Rattle.label.proofs.Puts.{wrote, wrote_as, wrote_none}
use Rattle.label.proofs.Places.{line-none}
use Rattle.label.proofs.Pieces.{line_pieces, line_made}
use Rattle.label.proofs.Walk.{Begun, begun-front, room, step, last}
use Rattle.label_lines.proofs.inner.put_line.Statement.{statement}
use Rattle.label_lines.proofs.inner.put_line.Tie as tie

returns : tie.Need-returns-then-text_len-eq0
returns c =
    let g = c.args in
    wrote_as (line-none (text_in2 g.a.now g.b.now g.s) (sym c.text_len.ensures.0 ∙ c.if-text_len-eq0.true))
    (wrote_none g.out.now)

at-text : (c : tie.Else-text_len-eq0) → let g = c.args in
    let a = g.a.now in let b = g.b.now in Begun (line_in a b g.s) (line_pieces a b g.s) g.out.now 0
at-text c =
    let start = c in
    begun-front (line_made _ _ start.args.s (λ z. c.if-text_len-eq0.false (c.text_len.ensures.0 ∙ z))) start.requires

text-at-requires : tie.Need-text_at-i-requires
text-at-requires c κs = room (at-text c.before)

byte-at-requires : tie.Need-byte_at-requires
byte-at-requires c κs =
    let text = c in
    room (step (at-text text.before.before.before.before.before) text.text_at-i.ensures)

returns-2 : tie.Need-returns
returns-2 c =
    let end = c in
    let text = end in
    wrote (last (step (at-text text.before.before.before.before.before.before.before.before) text.text_at-i.ensures) end.byte_at.ensures)

pub put_line_spec : {M : Type 1} → statement M
put_line_spec =
    tie.close
    (tie.spec (search rules) returns text-at-requires byte-at-requires (search rules) returns-2)
