-- `ttwvan::ttwvan_fold` meets its contract. Assumes nothing.
use borrow.Author.Rules.{rules}
use Rattle.van.proofs.Saids.{told-as}
use Rattle.ttwvan.proofs.ttwvan_fold.Statement.{statement}
use Rattle.ttwvan.proofs.ttwvan_fold.Tie as tie

returns : tie.Need-returns
returns c = told-as c.packed_answer.ensures c.fold.ensures

pub ttwvan_fold_spec : {M : Type 1} → statement M
ttwvan_fold_spec = tie.close (tie.spec (search rules) (search rules) (search rules) returns)
