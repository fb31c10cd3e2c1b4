-- `label_premises::inner::no_front` meets its contract. Assumes nothing.
use borrow.Author.Rules.{rules}
use Rattle.label_premises.proofs.inner.no_front.Statement.{statement}
use Rattle.label_premises.proofs.inner.no_front.Tie as tie

returns : tie.Need-returns
returns c = rw c.no_text-none.ensures

pub no_front_spec : {M : Type 1} → statement M
no_front_spec =
    tie.close (tie.spec (search rules) returns)
