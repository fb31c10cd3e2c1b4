-- `label::bytes_at` meets its contract. Assumes nothing.
use borrow.Author.Rules.{rules}
use Rattle.label.proofs.Texts.{cut-part, past-part}
use Rattle.label.proofs.bytes_at.Statement.{statement}
use Rattle.label.proofs.bytes_at.Tie as tie

returns : tie.Need-returns-then-at-x
returns c =
    let within = c in
    let g = within.args in
    rw c.lesser-n.ensures (cut-part g.x.now g.at g.len within.if-at-x.true)

returns-2 : tie.Need-returns-else-at-x
returns-2 c =
    let g = c.args in
    past-part g.x.now g.at g.len c.if-at-x.false

pub bytes_at_spec : {M : Type 1} → statement M
bytes_at_spec =
    tie.close
    (tie.spec (search rules) (search rules) (search rules) (search rules) (search rules) (search rules)
    (search rules) returns returns-2)
