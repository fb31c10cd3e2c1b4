-- `ttwibonal::ttw_letter` meets its contract. Assumes nothing.
use borrow.Author.Rules.{rules}
use Rattle.call.proofs.Laws.{told-reading}
use Rattle.ttwibonal.proofs.ttw_letter.Statement.{statement}
use Rattle.ttwibonal.proofs.ttw_letter.Tie as tie

returns : tie.Need-returns
returns c = told-reading c.packed_answer.ensures c.letter_of.ensures

pub ttw_letter_spec : {M : Type 1} → statement M
ttw_letter_spec = tie.close (tie.spec (search rules) (search rules) returns)
