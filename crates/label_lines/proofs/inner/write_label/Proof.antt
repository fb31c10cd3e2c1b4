-- `label_lines::inner::write_label` meets its contract: head, premises, places and postcode, one behind the other.
-- Assumes nothing.
use borrow.Author.Rules.{rules}
use Rattle.label.specs.Label.{label_of}
use Rattle.label.specs.Spans.{elements_in}
use Rattle.label.proofs.Puts.{wrote}
use Rattle.label.proofs.Pieces.{label_pieces, label-made}
use Rattle.label.proofs.Walk.{Begun, begun-front, room, step, last}
use Rattle.label_lines.proofs.inner.write_label.Statement.{statement}
use Rattle.label_lines.proofs.inner.write_label.Tie as tie

at_head : (c : tie.After-front_of-front) → let g = c.args in
    let a = g.a.now in let b = g.b.now in
    Begun (label_of (elements_in a b g.e)) (label_pieces a b c.lines_of-lines.result c.front_of-front.result g.e)
    g.out.now 0
at_head c =
    let shape = c in
    let start = shape in
    begun-front
    (label-made _ _ start.args.e shape.shape_of-shape.ensures c.lines_of-lines.ensures c.front_of-front.ensures)
    start.requires

head-at-requires : tie.Need-head_at-i-requires
head-at-requires c κs = room (at_head c.before.before.before)

premises-at-requires : tie.Need-premises_at-j-requires
premises-at-requires c κs =
    let head = c in
    room (step (at_head head.before.before.before.before.before.before.before) head.head_at-i.ensures)

places-at-requires : tie.Need-places_at-k-requires
places-at-requires c κs =
    let premises = c in
    let head = premises in
    let one = step (at_head head.before.before.before.before.before.before.before.before.before.before.before) head.head_at-i.ensures in
    room (step one premises.premises_at-j.ensures)

pair-at-requires : tie.Need-pair_at-requires
pair-at-requires c κs =
    let places = c in
    let premises = places in
    let head = premises.before.before.before.before in
    let one = step (at_head head.before.before.before.before.before.before.before.before.before.before.before) head.head_at-i.ensures in
    room (step (step one premises.premises_at-j.ensures) places.places_at-k.ensures)

returns : tie.Need-returns
returns c =
    let pair = c in
    let places = pair in
    let premises = places in
    let head = premises in
    let one = step (at_head head.before.before.before.before.before.before.before.before.before.before.before.before.before.before.before.before.before.before) head.head_at-i.ensures in
    let three = step (step one premises.premises_at-j.ensures) places.places_at-k.ensures in
    let all = wrote (last three pair.pair_at.ensures) in
    (all.size, all.is)

pub write_label_spec : {M : Type 1} → statement M
write_label_spec =
    tie.close
    (tie.spec (search rules) (search rules) (search rules) head-at-requires premises-at-requires
    places-at-requires pair-at-requires (search rules) returns)
