-- `ttwibonal::ttw_views` meets its contract. Assumes nothing.
use borrow.Author.Rules.{rules}
use Rattle.call.proofs.Laws.{told-reading}
use Rattle.ttwibonal.proofs.ttw_views.Statement.{statement}
use Rattle.ttwibonal.proofs.ttw_views.Tie as tie

returns : tie.Need-returns
returns c = told-reading c.packed_answer.ensures c.views_in.ensures

pub ttw_views_spec : {M : Type 1} → statement M
ttw_views_spec = tie.close (tie.spec (search rules) (search rules) returns)
