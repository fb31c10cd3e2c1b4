-- `mainfile_views::first_in` meets its contract. Assumes nothing.
use borrow.Author.Rules.{rules}
use Rattle.mainfile_views.specs.Range.{first_in}
use Rattle.mainfile_views.proofs.first_in.Statement.{statement}
use Rattle.mainfile_views.proofs.first_in.Tie as tie

returns : tie.Need-returns
unfolding first_in
returns c = c.bound_in.ensures

pub first_in_spec : {M : Type 1} → statement M
first_in_spec = tie.close (tie.spec (search rules) returns)
