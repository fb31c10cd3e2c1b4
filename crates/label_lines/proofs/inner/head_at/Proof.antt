-- `label_lines::inner::head_at` meets its contract: organisation, department and PO box, one behind the other.
-- Assumes nothing.
use borrow.Author.Rules.{rules}
use Rattle.label.specs.Put.{head_in}
use Rattle.label.proofs.Pieces.{head_pieces, head-made}
use Rattle.label.proofs.Walk.{Begun, begun, room, step, last}
use Rattle.label_lines.proofs.inner.head_at.Statement.{statement}
use Rattle.label_lines.proofs.inner.head_at.Tie as tie

at-start : (c : tie.Start) → let g = c.args in let a = g.a.now in let b = g.b.now in
    Begun (head_in a b g.e) (head_pieces a b g.e) g.out.now g.at
at-start c = begun (head-made _ _ c.args.e) c.requires

line-at-requires : tie.Need-line_at-i-requires
line-at-requires c κs = room (at-start c.before.before.before.before.before.before.before)

line-at-requires-2 : tie.Need-line_at-j-requires
line-at-requires-2 c κs =
    let organisation = c in
    room (step (at-start organisation.before.before.before.before.before.before.before.before.before.before.before) organisation.line_at-i.ensures)

box-at-requires : tie.Need-box_at-requires
box-at-requires c κs =
    let department = c in
    let organisation = department.before.before.before.before in
    let start = organisation.before.before.before.before.before.before.before.before in
    room (step (step (at-start start.before.before.before) organisation.line_at-i.ensures) department.line_at-j.ensures)

returns : tie.Need-returns
returns c =
    let box = c in
    let department = box in
    let organisation = department in
    let start = organisation in
    last (step (step (at-start start.before.before.before.before.before.before.before.before.before.before.before.before.before.before.before.before.before.before) organisation.line_at-i.ensures) department.line_at-j.ensures) box.box_at.ensures

pub head_at_spec : {M : Type 1} → statement M
head_at_spec =
    tie.close (tie.spec line-at-requires line-at-requires-2 box-at-requires (search rules) returns)
