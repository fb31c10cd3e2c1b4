-- `csv_write::fields::field_at` meets its contract: the text, then a comma. Assumes nothing.
use borrow.Author.Rules.{rules}
use Rattle.label.proofs.Walk.{Begun, begun, room, step, last}
use Rattle.csv_write.specs.Pieces.{field_in}
use Rattle.csv_write.proofs.Pieces.{field_pieces, field-made}
use Rattle.csv_write.proofs.fields.field_at.Statement.{statement}
use Rattle.csv_write.proofs.fields.field_at.Tie as tie

at-text : (c : tie.Start) → let g = c.args in let a = g.a.now in let b = g.b.now in
    Begun (field_in a b g.s) (field_pieces a b g.s) g.out.now g.at
at-text c = begun (field-made _ _ c.args.s) c.requires

text-at-requires : tie.Need-text_at-i-requires
text-at-requires c κs = room (at-text c.before.before.before.before)

byte-at-requires : tie.Need-byte_at-requires
byte-at-requires c κs =
    let text = c in
    room (step (at-text text.before.before.before.before.before.before.before.before) text.text_at-i.ensures)

returns : tie.Need-returns
returns c =
    let comma = c in
    let text = comma in
    last (step (at-text text.before.before.before.before.before.before.before.before.before.before.before) text.text_at-i.ensures) comma.byte_at.ensures

pub field_at_spec : {M : Type 1} → statement M
field_at_spec = tie.close (tie.spec text-at-requires byte-at-requires (search rules) returns)
