-- `ttwibonal::ttw_pack` meets its contract. Assumes nothing.
use borrow.Author.Rules.{rules}
use Rattle.call.proofs.Laws.{told-reading}
use Rattle.ttwibonal.proofs.ttw_pack.Statement.{statement}
use Rattle.ttwibonal.proofs.ttw_pack.Tie as tie

returns : tie.Need-returns
returns c = told-reading c.packed_answer.ensures c.open_pack.ensures

pub ttw_pack_spec : {M : Type 1} → statement M
ttw_pack_spec = tie.close (tie.spec (search rules) (search rules) returns)
