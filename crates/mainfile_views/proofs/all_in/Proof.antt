-- `mainfile_views::all_in` meets its contract. Assumes nothing.
use borrow.Author.Rules.{rules}
use mathlib.Core.Path.{refl}
use Rattle.mainfile_views.proofs.all_in.Statement.{statement}
use Rattle.mainfile_views.proofs.all_in.Tie as tie

returns : tie.Need-returns
returns c = (refl, c.above.ensures)

pub all_in_spec : {M : Type 1} → statement M
all_in_spec = tie.close (tie.spec (search rules) returns)
