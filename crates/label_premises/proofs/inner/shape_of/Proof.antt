-- `label_premises::inner::shape_of` meets its contract. Assumes nothing.
use borrow.Author.Rules.{rules}
use Rattle.label_premises.proofs.inner.shape_of.Statement.{statement}
use Rattle.label_premises.proofs.inner.shape_of.Tie as tie

returns : tie.Need-returns
returns c =
    rw (c.shape_by.ensures, c.text_of-n.ensures, c.text_of-s.ensures)

pub shape_of_spec : {M : Type 1} → statement M
shape_of_spec =
    tie.close (tie.spec (search rules) (search rules) (search rules) returns)
