-- `ttwibonal::books::ttw_book` meets its contract. Assumes nothing.
use borrow.Author.Rules.{rules}
use Rattle.call.proofs.Laws.{told-reading}
use Rattle.ttwibonal.proofs.books.ttw_book.Statement.{statement}
use Rattle.ttwibonal.proofs.books.ttw_book.Tie as tie

returns : tie.Need-returns
returns c = told-reading c.packed_answer.ensures c.check_book.ensures

pub ttw_book_spec : {M : Type 1} → statement M
ttw_book_spec = tie.close (tie.spec (search rules) (search rules) returns)
