-- `label::text_of` meets its contract. Assumes nothing.
use borrow.Author.Rules.{rules}
use Rattle.label.proofs.text_of.Statement.{statement}
use Rattle.label.proofs.text_of.Tie as tie

returns : tie.Need-returns-then-s
returns c = rw (c.bytes_at.ensures, c.if-s.true)

returns-2 : tie.Need-returns-else-s
returns-2 c = rw (c.bytes_at-else-s.ensures, c.if-s.false)

pub text_of_spec : {M : Type 1} → statement M
text_of_spec =
    tie.close (tie.spec (search rules) (search rules) returns returns-2)
