-- `ttwibonal::ttw_pack_suffix` meets its contract. Assumes nothing.
use borrow.Author.Rules.{rules}
use Rattle.call.proofs.Laws.{told-reading}
use Rattle.ttwibonal.proofs.ttw_pack_suffix.Statement.{statement}
use Rattle.ttwibonal.proofs.ttw_pack_suffix.Tie as tie

returns : tie.Need-returns
returns c = told-reading c.packed_answer.ensures c.suffix_of_point.ensures

pub ttw_pack_suffix_spec : {M : Type 1} → statement M
ttw_pack_suffix_spec = tie.close (tie.spec (search rules) (search rules) returns)
