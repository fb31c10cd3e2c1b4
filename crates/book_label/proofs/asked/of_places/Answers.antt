use mathlib.Core.Path.{sym, ◌∙◌}
use Rattle.ask.proofs.Shown.{views-shown, views-refused}
use Rattle.book_source.specs.Source.{book_of}
use Rattle.book_label.proofs.Meant.{book-good, table-accepted, asks-views}
use Rattle.refusal.proofs.Passed.{said-passed}
use Rattle.book_label.proofs.asked.of_places.Goals as goal

pub walk-requires : goal.walk-requires
walk-requires c =
    let taken = sym c.check_source.ensures ∙ c.in_ok-check_source.was in
    (book-good c.args.book.now c.args.table.now taken, table-accepted c.args.book.now c.args.table.now taken)

pub returns : goal.returns
returns c =
    let taken = sym c.check_source.ensures ∙ c.in_ok-check_source.was in
    c.walk.ensures
    ∙ views-shown (book_of c.args.book.now c.args.table.now) taken c.args.first c.args.count c.args.out.now _
    (asks-views c.args.book.now c.args.table.now taken) c.args.listed

pub returns-in_err-check_source : goal.returns-in_err-check_source
returns-in_err-check_source c =
    said-passed _ c.from_residual.ensures.1
    ∙ (views-refused (book_of c.args.book.now c.args.table.now) (sym c.check_source.ensures ∙ c.in_err-check_source.was)
    c.args.first c.args.count c.args.out.now c.args.listed)
