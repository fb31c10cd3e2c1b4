-- `ttwibonal::ttw_build` meets its contract. Assumes nothing.
use borrow.Author.Rules.{rules}
use Rattle.call.proofs.Laws.{told-writing}
use Rattle.ttwibonal.proofs.ttw_build.Statement.{statement}
use Rattle.ttwibonal.proofs.ttw_build.Tie as tie

returns : tie.Need-returns
returns c = told-writing c.packed_answer.ensures c.build_pack.ensures

pub ttw_build_spec : {M : Type 1} → statement M
ttw_build_spec = tie.close (tie.spec (search rules) (search rules) (search rules) returns)
