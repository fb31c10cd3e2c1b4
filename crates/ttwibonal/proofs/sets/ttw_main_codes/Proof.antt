-- `ttwibonal::sets::ttw_main_codes` meets its contract. Assumes nothing.
use borrow.Author.Rules.{rules}
use Rattle.call.proofs.Laws.{told-writing}
use Rattle.ttwibonal.proofs.sets.ttw_main_codes.Statement.{statement}
use Rattle.ttwibonal.proofs.sets.ttw_main_codes.Tie as tie

returns : tie.Need-returns
returns c = told-writing c.packed_answer.ensures c.codes_in.ensures

pub ttw_main_codes_spec : {M : Type 1} → statement M
ttw_main_codes_spec = tie.close (tie.spec (search rules) (search rules) (search rules) returns)
