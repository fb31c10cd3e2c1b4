-- `csv_write::length::street_len` meets its contract. Assumes nothing.
use borrow.Author.Rules.{rules}
use native.Mathlib.Omega.{arith}
use Rattle.label.specs.Spans.{text_in2}
use Rattle.csv_write.proofs.Sizes.{street-size}
use Rattle.csv_write.proofs.length.street_len.Statement.{statement}
use Rattle.csv_write.proofs.length.street_len.Tie as tie

returns : tie.Need-returns
returns c =
    let name = c.text_len-n.ensures in
    let beside = c.tail_len.ensures in
    let g = c.args in
    let text = text_in2 g.a.now g.b.now in
    (omega (arith, name.0, beside.0, street-size (text g.name) (text g.descriptor)), omega (arith, name.1, beside.1))

pub street_len_spec : {M : Type 1} → statement M
street_len_spec = tie.close (tie.spec (search rules) (search rules) (search rules) returns)
