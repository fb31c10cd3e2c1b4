-- `csv_write::fields::write_row` meets its contract: twelve fields, then the ending. Assumes nothing.
use borrow.Author.Rules.{rules}
use Rattle.label.proofs.Puts.{wrote}
use Rattle.label.proofs.Walk.{Begun, begun-front, room, step, last}
use Rattle.csv_write.specs.Pieces.{row_in}
use Rattle.csv_write.proofs.Pieces.{row_pieces, row_made}
use Rattle.csv_write.proofs.fields.write_row.Statement.{statement}
use Rattle.csv_write.proofs.fields.write_row.Tie as tie

at_places : (c : tie.Start) → let g = c.args in let a = g.a.now in let b = g.b.now in
    Begun (row_in a b g.e g.x) (row_pieces a b g.e g.x) g.out.now 0
at_places c = begun-front (row_made _ _ c.args.e c.args.x) c.requires

places-at-requires : tie.Need-places_at-i-requires
places-at-requires c κs = room (at_places c.before.before.before.before)

premises-at-requires : tie.Need-premises_at-j-requires
premises-at-requires c κs =
    let places = c in
    room (step (at_places places.before.before.before.before.before.before.before.before) places.places_at-i.ensures)

ending-at-requires : tie.Need-ending_at-requires
ending-at-requires c κs =
    let premises = c in
    let places = premises in
    room
    (step (step (at_places places.before.before.before.before.before.before.before.before.before.before.before.before) places.places_at-i.ensures)
    premises.premises_at-j.ensures)

returns : tie.Need-returns
returns c =
    let ending = c in
    let premises = ending in
    let places = premises in
    wrote
    (last
    (step (step (at_places places.before.before.before.before.before.before.before.before.before.before.before.before.before.before.before) places.places_at-i.ensures)
    premises.premises_at-j.ensures)
    ending.ending_at.ensures)

pub write_row_spec : {M : Type 1} → statement M
write_row_spec =
    tie.close (tie.spec places-at-requires premises-at-requires ending-at-requires (search rules) returns)
