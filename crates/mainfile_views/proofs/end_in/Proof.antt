-- `mainfile_views::end_in` meets its contract. Assumes nothing.
use borrow.Author.Rules.{rules}
use Rattle.mainfile_views.specs.Range.{end_in}
use Rattle.mainfile_views.proofs.end_in.Statement.{statement}
use Rattle.mainfile_views.proofs.end_in.Tie as tie

returns : tie.Need-returns
unfolding end_in
returns c = c.bound_in.ensures

pub end_in_spec : {M : Type 1} → statement M
end_in_spec = tie.close (tie.spec (search rules) returns)
