-- `book_check::check_book` meets its contract. Assumes nothing.
use borrow.Author.Rules.{rules}
use mathlib.Core.Path.{sym, ap, ◌∙◌}
use Rattle.book_check.proofs.Kept.{book-long, judged-book, judged-other}
use Rattle.book_check.proofs.check_book.Statement.{statement}
use Rattle.book_check.proofs.check_book.Tie as tie
use Rattle.std.specs.Prelude.{Ok}

count-of-requires : tie.Need-count_of-requires
count-of-requires c κs =
    let b = c.before in
    book-long b.args.book.now (sym b.is_book.ensures ∙ c.if-is_book.true)

returns : tie.Need-returns-then-is_book
returns c =
    let t = c in
    let b = t in
    ap Ok c.count_of.ensures.0
    ∙ sym (judged-book b.args.book.now (sym b.is_book.ensures ∙ t.if-is_book.true))

returns-2 : tie.Need-returns
returns-2 c =
    let b = c in
    rw c.into.ensures (sym (judged-other b.args.book.now (sym b.is_book.ensures ∙ c.if-is_book.false)))

pub check_book_spec : {M : Type 1} → statement M
check_book_spec = tie.close (tie.spec (search rules) count-of-requires returns (search rules) returns-2)
