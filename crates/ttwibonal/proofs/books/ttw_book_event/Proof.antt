-- `ttwibonal::books::ttw_book_event` meets its contract. Assumes nothing.
use borrow.Author.Rules.{rules}
use Rattle.call.proofs.Laws.{told-writing}
use Rattle.ttwibonal.proofs.books.ttw_book_event.Statement.{statement}
use Rattle.ttwibonal.proofs.books.ttw_book_event.Tie as tie

returns : tie.Need-returns
returns c = told-writing c.packed_answer.ensures c.book_event.ensures

pub ttw_book_event_spec : {M : Type 1} → statement M
ttw_book_event_spec = tie.close (tie.spec (search rules) (search rules) (search rules) returns)
