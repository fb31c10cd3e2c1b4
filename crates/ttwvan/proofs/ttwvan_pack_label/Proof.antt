-- `ttwvan::ttwvan_pack_label` meets its contract. Assumes nothing.
use borrow.Author.Rules.{rules}
use Rattle.van.proofs.Saids.{told-as}
use Rattle.ttwvan.proofs.ttwvan_pack_label.Statement.{statement}
use Rattle.ttwvan.proofs.ttwvan_pack_label.Tie as tie

returns : tie.Need-returns
returns c = told-as c.packed_answer.ensures c.label_of_point.ensures

pub ttwvan_pack_label_spec : {M : Type 1} → statement M
ttwvan_pack_label_spec = tie.close (tie.spec (search rules) (search rules) (search rules) returns)
