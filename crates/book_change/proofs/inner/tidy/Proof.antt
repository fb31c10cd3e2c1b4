-- `book_change::inner::tidy` meets its contract. Assumes nothing.
use borrow.Author.Rules.{rules}
use Prim.Native.Nat.{ℕ}
use mathlib.Core.Path.{sym, ap, ap₂, ◌∙◌}
use mathlib.Core.List.{List}
use Rattle.book.specs.Layout.{book_length, count_of, laid}
use Rattle.book.specs.Book.{is_book}
use Rattle.book.specs.Event.{slot_tidied}
use Rattle.book_check.proofs.Kept.{book-long}
use Rattle.book_change.proofs.Writes.{copy-room, copied, upto-laid}
use Rattle.book_change.proofs.inner.tidy.Statement.{statement}
use Rattle.book_change.proofs.inner.tidy.Tie as tie

bytes-at-requires : tie.Need-bytes_at-requires
bytes-at-requires c κs =
    let s = c.before.before in
    copy-room book_length s.args.book.now (book-long s.args.book.now s.requires)

count-of-requires : tie.Need-count_of-count-requires
count-of-requires c κs =
    let start = c in
    book-long start.args.book.now start.requires

tidy-all-requires : tie.Need-tidy_all-requires
tidy-all-requires c κs =
    let behind-count-of = c in
    let behind-bytes-at = behind-count-of in
    let start = behind-bytes-at in
    let book = start.args.book.now in
    let long = book-long book start.requires in
    let old = copied book_length book _ long behind-bytes-at.bytes_at.ensures in
    (long, ap is_book old ∙ start.requires, behind-count-of.count_of-count.ensures.0 ∙ ap count_of (sym old))

returns : tie.Need-returns
returns c =
    let behind-short-at = c in
    let behind-tidy-all = behind-short-at in
    let behind-count-of = behind-tidy-all in
    let behind-bytes-at = behind-count-of in
    let start = behind-bytes-at in
    let book = start.args.book.now in
    let long = book-long book start.requires in
    let old = copied book_length book _ long behind-bytes-at.bytes_at.ensures in
    let count = behind-count-of.count_of-count.ensures.0 in (
      count,
      upto-laid behind-count-of.count_of-count.result behind-tidy-all.tidy_all.ensures behind-short-at.short_at.ensures
          ∙ ap₂ (λ (l : List ℕ) (n : ℕ). laid (slot_tidied l) n) old count,
    )

pub tidy_spec : {M : Type 1} → statement M
tidy_spec =
    tie.close
    (tie.spec (search rules) bytes-at-requires count-of-requires (search rules) tidy-all-requires (search rules)
    (search rules) returns)
