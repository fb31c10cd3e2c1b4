-- `csv_write::fields::postcode_at` meets its contract: the outward code, a space, then the inward code as a field.
-- Assumes nothing.
use borrow.Author.Rules.{rules}
use Rattle.label.proofs.Walk.{Begun, begun, room, step, last}
use Rattle.csv_write.specs.Pieces.{postcode_in}
use Rattle.csv_write.proofs.Pieces.{postcode_pieces, postcode-made}
use Rattle.csv_write.proofs.fields.postcode_at.Statement.{statement}
use Rattle.csv_write.proofs.fields.postcode_at.Tie as tie

at-outward : (c : tie.Start) → let g = c.args in let a = g.a.now in let b = g.b.now in
    Begun (postcode_in a b g.outward g.inward) (postcode_pieces a b g.outward g.inward) g.out.now g.at
at-outward c = begun (postcode-made _ _ c.args.outward c.args.inward) c.requires

text-at-requires : tie.Need-text_at-i-requires
text-at-requires c κs = room (at-outward c.before.before.before.before)

byte-at-requires : tie.Need-byte_at-j-requires
byte-at-requires c κs =
    let outward = c in
    room (step (at-outward outward.before.before.before.before.before.before.before.before) outward.text_at-i.ensures)

field-at-requires : tie.Need-field_at-requires
field-at-requires c κs =
    let space = c in
    let outward = space in
    room
    (step (step (at-outward outward.before.before.before.before.before.before.before.before.before.before.before.before) outward.text_at-i.ensures)
    space.byte_at-j.ensures)

returns : tie.Need-returns
returns c =
    let inward = c in
    let space = inward in
    let outward = space in
    last
    (step (step (at-outward outward.before.before.before.before.before.before.before.before.before.before.before.before.before.before.before) outward.text_at-i.ensures)
    space.byte_at-j.ensures)
    inward.field_at.ensures

pub postcode_at_spec : {M : Type 1} → statement M
postcode_at_spec =
    tie.close (tie.spec text-at-requires byte-at-requires field-at-requires (search rules) returns)
