-- `ttwibonal::books::ttw_book_tidy` meets its contract. Assumes nothing.
use borrow.Author.Rules.{rules}
use Rattle.call.proofs.Laws.{told-writing}
use Rattle.ttwibonal.proofs.books.ttw_book_tidy.Statement.{statement}
use Rattle.ttwibonal.proofs.books.ttw_book_tidy.Tie as tie

returns : tie.Need-returns
returns c = told-writing c.packed_answer.ensures c.tidy_book.ensures

pub ttw_book_tidy_spec : {M : Type 1} → statement M
ttw_book_tidy_spec = tie.close (tie.spec (search rules) (search rules) (search rules) returns)
