-- `ttwibonal::ttw_points` meets its contract. Assumes nothing.
use borrow.Author.Rules.{rules}
use Rattle.call.proofs.Laws.{told-reading}
use Rattle.ttwibonal.proofs.ttw_points.Statement.{statement}
use Rattle.ttwibonal.proofs.ttw_points.Tie as tie

returns : tie.Need-returns
returns c = told-reading c.packed_answer.ensures c.check_points.ensures

pub ttw_points_spec : {M : Type 1} → statement M
ttw_points_spec = tie.close (tie.spec (search rules) (search rules) returns)
