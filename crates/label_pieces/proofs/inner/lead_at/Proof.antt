-- `label_pieces::inner::lead_at` meets its contract: nothing of a front that is empty or no longer pending, and else the front and a space.
-- Assumes nothing.
use borrow.Author.Rules.{rules}
use mathlib.Core.Path.{sym, ◌∙◌}
use Rattle.label.specs.Put.{front_text, lead_in}
use Rattle.label.proofs.Puts.{put-none, put_as}
use Rattle.label.proofs.Places.{lead-none}
use Rattle.label.proofs.Pieces.{lead_pieces, lead-made}
use Rattle.label.proofs.Walk.{Begun, begun, room, step, last}
use Rattle.label_pieces.proofs.inner.lead_at.Statement.{statement}
use Rattle.label_pieces.proofs.inner.lead_at.Tie as tie

returns : tie.Need-returns-then-front_len-eq0
returns c =
    let pending = c in
    let g = pending.args in
    rw pending.if-f.true
    (put_as
    (lead-none (front_text g.a.now g.b.now g.f) (sym c.front_len.ensures.0 ∙ c.if-front_len-eq0.true))
    (put-none g.out.now g.at))

at_front : (c : tie.Else-front_len-eq0) → let g = c.args in
    let a = g.a.now in let b = g.b.now in
    Begun (lead_in a b g.f) (lead_pieces a b g.f) g.out.now g.at
at_front c =
    let pending = c in
    let start = pending in
    begun
    (lead-made _ _ start.args.f pending.if-f.true (λ z. c.if-front_len-eq0.false (c.front_len.ensures.0 ∙ z)))
    start.requires

front-text-at-requires : tie.Need-front_text_at-i-requires
front-text-at-requires c κs = room (at_front c.before)

byte-at-requires : tie.Need-byte_at-requires
byte-at-requires c κs =
    let front = c in
    room (step (at_front front.before.before.before.before.before) front.front_text_at-i.ensures)

returns-2 : tie.Need-returns-then-f
returns-2 c =
    let space = c in
    let front = space in
    last (step (at_front front.before.before.before.before.before.before.before.before) front.front_text_at-i.ensures) space.byte_at.ensures

returns-3 : tie.Need-returns
returns-3 c =
    let g = c.args in
    rw c.if-f.false (put-none g.out.now g.at)

pub lead_at_spec : {M : Type 1} → statement M
lead_at_spec =
    tie.close
    (tie.spec (search rules) returns front-text-at-requires byte-at-requires (search rules) returns-2 returns-3)
