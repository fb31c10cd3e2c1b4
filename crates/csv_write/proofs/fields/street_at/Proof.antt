-- `csv_write::fields::street_at` meets its contract: the name, what stands beside it, then a comma. Assumes nothing.
use borrow.Author.Rules.{rules}
use Rattle.label.proofs.Walk.{Begun, begun, room, step, last}
use Rattle.csv_write.specs.Pieces.{street_in}
use Rattle.csv_write.proofs.Pieces.{street_pieces, street-made}
use Rattle.csv_write.proofs.fields.street_at.Statement.{statement}
use Rattle.csv_write.proofs.fields.street_at.Tie as tie

at_name : (c : tie.Start) → let g = c.args in let a = g.a.now in let b = g.b.now in
    Begun (street_in a b g.name g.descriptor) (street_pieces a b g.name g.descriptor) g.out.now g.at
at_name c = begun (street-made _ _ c.args.name c.args.descriptor) c.requires

text-at-requires : tie.Need-text_at-i-requires
text-at-requires c κs = room (at_name c.before.before.before.before)

tail-at-requires : tie.Need-tail_at-j-requires
tail-at-requires c κs =
    let name = c in
    room (step (at_name name.before.before.before.before.before.before.before.before) name.text_at-i.ensures)

byte-at-requires : tie.Need-byte_at-requires
byte-at-requires c κs =
    let beside = c in
    let name = beside in
    room
    (step (step (at_name name.before.before.before.before.before.before.before.before.before.before.before.before) name.text_at-i.ensures) beside.tail_at-j.ensures)

returns : tie.Need-returns
returns c =
    let comma = c in
    let beside = comma in
    let name = beside in
    last
    (step (step (at_name name.before.before.before.before.before.before.before.before.before.before.before.before.before.before.before) name.text_at-i.ensures) beside.tail_at-j.ensures)
    comma.byte_at.ensures

pub street_at_spec : {M : Type 1} → statement M
street_at_spec =
    tie.close (tie.spec text-at-requires tail-at-requires byte-at-requires (search rules) returns)
