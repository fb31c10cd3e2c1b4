-- `ttwibonal::ttw_sector` meets its contract. Assumes nothing.
use borrow.Author.Rules.{rules}
use Rattle.call.proofs.Laws.{told-reading}
use Rattle.ttwibonal.proofs.ttw_sector.Statement.{statement}
use Rattle.ttwibonal.proofs.ttw_sector.Tie as tie

returns : tie.Need-returns
returns c = told-reading c.packed_answer.ensures c.points_in_sector.ensures

pub ttw_sector_spec : {M : Type 1} → statement M
ttw_sector_spec = tie.close (tie.spec (search rules) (search rules) returns)
