-- `ttwvan::sets::ttwvan_main_code_label` meets its contract. Assumes nothing.
use borrow.Author.Rules.{rules}
use Rattle.van.proofs.Saids.{told-as}
use Rattle.ttwvan.proofs.sets.ttwvan_main_code_label.Statement.{statement}
use Rattle.ttwvan.proofs.sets.ttwvan_main_code_label.Tie as tie

returns : tie.Need-returns
returns c = told-as c.packed_answer.ensures c.main_label_in_code-answer.ensures

pub ttwvan_main_code_label_spec : {M : Type 1} → statement M
ttwvan_main_code_label_spec = tie.close (tie.spec (search rules) (search rules) (search rules) returns)
