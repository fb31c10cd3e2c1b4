-- `ttwibonal::books::ttw_book_labels` meets its contract. Assumes nothing.
use borrow.Author.Rules.{rules}
use Rattle.call.proofs.Laws.{told-running}
use Rattle.ttwibonal.proofs.books.ttw_book_labels.Statement.{statement}
use Rattle.ttwibonal.proofs.books.ttw_book_labels.Tie as tie

returns : tie.Need-returns
returns c =
    let b = c in
    let l = b in
    let a = l.args in
    told-running a.bytes.now c.packed_series.ensures b.bytes_of.ensures l.labels_of_places-run.ensures

pub ttw_book_labels_spec : {M : Type 1} → statement M
ttw_book_labels_spec = tie.close (tie.spec (search rules) (search rules) (search rules) (search rules) returns)
