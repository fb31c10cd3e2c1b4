-- `ttwibonal::sets::ttw_main_code_label` meets its contract. Assumes nothing.
use borrow.Author.Rules.{rules}
use Rattle.call.proofs.Laws.{told-writing}
use Rattle.ttwibonal.proofs.sets.ttw_main_code_label.Statement.{statement}
use Rattle.ttwibonal.proofs.sets.ttw_main_code_label.Tie as tie

returns : tie.Need-returns
returns c = told-writing c.packed_answer.ensures c.label_in_code-answer.ensures

pub ttw_main_code_label_spec : {M : Type 1} → statement M
ttw_main_code_label_spec = tie.close (tie.spec (search rules) (search rules) (search rules) returns)
