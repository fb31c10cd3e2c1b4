-- `ttwibonal::rows::ttw_csv` meets its contract. Assumes nothing.
use borrow.Author.Rules.{rules}
use Rattle.call.proofs.Laws.{told-reading}
use Rattle.ttwibonal.proofs.rows.ttw_csv.Statement.{statement}
use Rattle.ttwibonal.proofs.rows.ttw_csv.Tie as tie

returns : tie.Need-returns
returns c = told-reading c.packed_answer.ensures c.check_csv.ensures

pub ttw_csv_spec : {M : Type 1} → statement M
ttw_csv_spec = tie.close (tie.spec (search rules) (search rules) returns)
