-- `ttwibonal::books::ttw_book_live` meets its contract. Assumes nothing.
use borrow.Author.Rules.{rules}
use Rattle.call.proofs.Laws.{told-reading}
use Rattle.ttwibonal.proofs.books.ttw_book_live.Statement.{statement}
use Rattle.ttwibonal.proofs.books.ttw_book_live.Tie as tie

returns : tie.Need-returns
returns c = told-reading c.packed_answer.ensures c.live_in.ensures

pub ttw_book_live_spec : {M : Type 1} → statement M
ttw_book_live_spec = tie.close (tie.spec (search rules) (search rules) returns)
