-- `ttwibonal::sets::ttw_main` meets its contract. Assumes nothing.
use borrow.Author.Rules.{rules}
use Rattle.call.proofs.Laws.{told-reading}
use Rattle.ttwibonal.proofs.sets.ttw_main.Statement.{statement}
use Rattle.ttwibonal.proofs.sets.ttw_main.Tie as tie

returns : tie.Need-returns
returns c = told-reading c.packed_answer.ensures c.views_in-answer.ensures

pub ttw_main_spec : {M : Type 1} → statement M
ttw_main_spec = tie.close (tie.spec (search rules) (search rules) returns)
