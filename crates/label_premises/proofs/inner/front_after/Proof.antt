-- `label_premises::inner::front_after` meets its contract. Assumes nothing.
use borrow.Author.Rules.{rules}
use Rattle.label_premises.proofs.inner.front_after.Statement.{statement}
use Rattle.label_premises.proofs.inner.front_after.Tie as tie

returns : tie.Need-returns
returns c = rw c.is_absent.ensures

pub front_after_spec : {M : Type 1} → statement M
front_after_spec =
    tie.close (tie.spec (search rules) returns)
