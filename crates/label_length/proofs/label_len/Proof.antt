-- `label_length::label_len` meets its contract: head, premises, places and postcode.
-- Assumes nothing.
use borrow.Author.Rules.{rules}
use Rattle.label.proofs.Pieces.{label-made}
use Rattle.label.proofs.Walk.{four-sized}
use Rattle.label_length.proofs.label_len.Statement.{statement}
use Rattle.label_length.proofs.label_len.Tie as tie

returns : tie.Need-returns
returns c =
    let places = c in
    let premises = places in
    let head = premises in
    let front = head in
    let lines = front in
    let shape = lines in
    let g = shape.args in
    four-sized
    (label-made g.a.now g.b.now g.e shape.shape_of-shape.ensures lines.lines_of-lines.ensures
    front.front_of-front.ensures)
    head.head_len-i.ensures.0 premises.premises_len-j.ensures.0 places.places_len-k.ensures.0
    c.pair_len.ensures.0

pub label_len_spec : {M : Type 1} → statement M
label_len_spec =
    tie.close
    (tie.spec (search rules) (search rules) (search rules) (search rules) (search rules) (search rules)
    (search rules) (search rules) (search rules) (search rules) returns)
