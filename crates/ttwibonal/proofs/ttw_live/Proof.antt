-- `ttwibonal::ttw_live` meets its contract. Assumes nothing.
use borrow.Author.Rules.{rules}
use Rattle.call.proofs.Laws.{told-reading}
use Rattle.ttwibonal.proofs.ttw_live.Statement.{statement}
use Rattle.ttwibonal.proofs.ttw_live.Tie as tie

returns : tie.Need-returns
returns c = told-reading c.packed_answer.ensures c.live_in.ensures

pub ttw_live_spec : {M : Type 1} → statement M
ttw_live_spec = tie.close (tie.spec (search rules) (search rules) returns)
