-- `ttwibonal::ttw_table` meets its contract. Assumes nothing.
use borrow.Author.Rules.{rules}
use Rattle.call.proofs.Laws.{told-reading}
use Rattle.ttwibonal.proofs.ttw_table.Statement.{statement}
use Rattle.ttwibonal.proofs.ttw_table.Tie as tie

returns : tie.Need-returns
returns c = told-reading c.packed_answer.ensures c.check_table.ensures

pub ttw_table_spec : {M : Type 1} → statement M
ttw_table_spec = tie.close (tie.spec (search rules) (search rules) returns)
