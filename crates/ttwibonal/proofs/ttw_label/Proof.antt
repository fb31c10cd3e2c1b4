-- `ttwibonal::ttw_label` meets its contract. Assumes nothing.
use borrow.Author.Rules.{rules}
use Rattle.call.proofs.Laws.{told-writing}
use Rattle.ttwibonal.proofs.ttw_label.Statement.{statement}
use Rattle.ttwibonal.proofs.ttw_label.Tie as tie

returns : tie.Need-returns
returns c = told-writing c.packed_answer.ensures c.label_view.ensures

pub ttw_label_spec : {M : Type 1} → statement M
ttw_label_spec = tie.close (tie.spec (search rules) (search rules) (search rules) returns)
