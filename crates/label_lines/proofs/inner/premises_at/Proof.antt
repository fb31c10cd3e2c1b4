-- `label_lines::inner::premises_at` meets its contract: a place with nothing before it, and a line.
-- Assumes nothing.
use borrow.Author.Rules.{rules}
use Rattle.label.specs.Put.{premises_in}
use Rattle.label.proofs.Pieces.{premises_pieces, premises-made}
use Rattle.label.proofs.Walk.{Begun, begun, room, step, last}
use Rattle.label_lines.proofs.inner.premises_at.Statement.{statement}
use Rattle.label_lines.proofs.inner.premises_at.Tie as tie

at-upper : (c : tie.After-no_front-none) → let g = c.args in
    let a = g.a.now in let b = g.b.now in
    Begun (premises_in a b g.l) (premises_pieces a b c.no_front-none.result g.l) g.out.now g.at
at-upper c =
    let start = c in
    begun (premises-made _ _ start.args.l c.no_front-none.ensures) start.requires

place-at-requires : tie.Need-place_at-i-requires
place-at-requires c κs = room (at-upper c.before)

line-at-requires : tie.Need-line_at-requires
line-at-requires c κs =
    let upper = c in
    room (step (at-upper upper.before.before.before.before.before) upper.place_at-i.ensures)

returns : tie.Need-returns
returns c =
    let lower = c in
    let upper = lower in
    last (step (at-upper upper.before.before.before.before.before.before.before.before) upper.place_at-i.ensures) lower.line_at.ensures

pub premises_at_spec : {M : Type 1} → statement M
premises_at_spec =
    tie.close
    (tie.spec (search rules) place-at-requires line-at-requires (search rules) returns)
