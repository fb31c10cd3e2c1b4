-- `ttwibonal::rows::ttw_main_csv_row` meets its contract. Assumes nothing.
use borrow.Author.Rules.{rules}
use Rattle.call.proofs.Laws.{told-writing}
use Rattle.ttwibonal.proofs.rows.ttw_main_csv_row.Statement.{statement}
use Rattle.ttwibonal.proofs.rows.ttw_main_csv_row.Tie as tie

returns : tie.Need-returns
returns c = told-writing c.packed_answer.ensures c.row_of_view-answer.ensures

pub ttw_main_csv_row_spec : {M : Type 1} → statement M
ttw_main_csv_row_spec = tie.close (tie.spec (search rules) (search rules) (search rules) returns)
