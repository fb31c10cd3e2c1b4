-- `csv_write::fields::number_field_at` meets its contract: the number, then a comma. Assumes nothing.
use borrow.Author.Rules.{rules}
use Rattle.label.proofs.Walk.{Begun, begun, room, step, last}
use Rattle.csv_write.specs.Pieces.{number_field}
use Rattle.csv_write.proofs.Pieces.{number_pieces, number-made}
use Rattle.csv_write.proofs.fields.number_field_at.Statement.{statement}
use Rattle.csv_write.proofs.fields.number_field_at.Tie as tie

at-number : (c : tie.Start) → let g = c.args in Begun (number_field g.n) (number_pieces g.n) g.out.now g.at
at-number c = begun (number-made c.args.n) c.requires

number-at-requires : tie.Need-number_at-i-requires
number-at-requires c κs = room (at-number c.before.before)

byte-at-requires : tie.Need-byte_at-requires
byte-at-requires c κs =
    let number = c in
    room (step (at-number number.before.before.before.before.before.before) number.number_at-i.ensures)

returns : tie.Need-returns
returns c =
    let comma = c in
    let number = comma in
    last (step (at-number number.before.before.before.before.before.before.before.before.before) number.number_at-i.ensures) comma.byte_at.ensures

pub number_field_at_spec : {M : Type 1} → statement M
number_field_at_spec = tie.close (tie.spec number-at-requires byte-at-requires (search rules) returns)
