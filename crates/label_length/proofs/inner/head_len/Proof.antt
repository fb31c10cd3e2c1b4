-- `label_length::inner::head_len` meets its contract: organisation, department and PO box.
-- Assumes nothing.
use borrow.Author.Rules.{rules}
use native.Mathlib.Omega.{arith}
use Rattle.label.proofs.Pieces.{head-made}
use Rattle.label.proofs.Walk.{three-sized}
use Rattle.label_length.proofs.inner.head_len.Statement.{statement}
use Rattle.label_length.proofs.inner.head_len.Tie as tie

returns : tie.Need-returns
returns c =
    let department = c in
    let organisation = department in
    let g = organisation.args in
    three-sized (head-made g.a.now g.b.now g.e) organisation.line_len-i.ensures
    department.line_len-j.ensures c.box_len.ensures (omega arith)

pub head_len_spec : {M : Type 1} → statement M
head_len_spec =
    tie.close
    (tie.spec (search rules) (search rules) (search rules) (search rules) (search rules) returns)
