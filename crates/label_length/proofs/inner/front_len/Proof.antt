-- `label_length::inner::front_len` meets its contract: the number, the text and what stands beside it.
-- Assumes nothing.
use borrow.Author.Rules.{rules}
use native.Mathlib.Omega.{arith}
use Rattle.label.proofs.Pieces.{front-made}
use Rattle.label.proofs.Walk.{three-sized}
use Rattle.label_length.proofs.inner.front_len.Statement.{statement}
use Rattle.label_length.proofs.inner.front_len.Tie as tie

returns : tie.Need-returns
returns c =
    let text = c in
    let number = text in
    let g = number.args in
    three-sized (front-made g.a.now g.b.now g.f) number.number_len-n.ensures text.text_len-m.ensures
    c.tail_len.ensures (omega arith)

pub front_len_spec : {M : Type 1} → statement M
front_len_spec =
    tie.close
    (tie.spec (search rules) (search rules) (search rules) (search rules) (search rules) returns)
