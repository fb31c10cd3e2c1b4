-- `book_build::cut` meets its contract. Assumes nothing.
use borrow.Author.Rules.{rules}
use mathlib.Core.Path.{sym, ◌∙◌}
use lib.Seq.{length-take-le}
use native.Mathlib.Omega.{arith}
use Rattle.book_build.proofs.Laws.{chosen-ready, chosen-cut}
use Rattle.book_build.proofs.cut.Statement.{statement}
use Rattle.book_build.proofs.cut.Tie as tie

starts-in-requires : tie.Need-starts_in-found-requires
starts-in-requires c κs = c.requires.of_book

array-share-prefix-starts : tie.Need-slice_bounds-starts-end
array-share-prefix-starts c =
    let h = c.starts_in-found.ensures in
    omega (arith, h.few, h.long)

slice-aggregate-cut-chosen : tie.Need-slice_bounds-cut_chosen-end
slice-aggregate-cut-chosen c =
    let h = c.starts_in-found.ensures in
    sym (length-take-le _ _ (omega (arith, h.few, h.long)))

cut-chosen-requires : tie.Need-cut_chosen-requires
cut-chosen-requires c κs =
    let f = c in
    let s = f in
    chosen-ready s.args.book.now s.args.table.now s.args.code.now s.requires _ f.starts_in-found.ensures.are

returns : tie.Need-returns
returns c =
    let w = c in
    let f = w in
    let s = f in
    w.cut_chosen.ensures
    ∙ chosen-cut s.args.book.now s.args.table.now s.args.code.now s.requires _ s.args.out.now
    f.starts_in-found.ensures.are

pub cut_spec : {M : Type 1} → statement M
cut_spec =
    tie.close
    (tie.spec starts-in-requires array-share-prefix-starts slice-aggregate-cut-chosen cut-chosen-requires (search rules)
    returns)
