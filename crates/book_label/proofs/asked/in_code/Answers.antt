use mathlib.Core.Path.{sym, ◌∙◌}
use Rattle.ask.proofs.Shown.{code-shown, code_refused, files_refused}
use Rattle.book_source.specs.Source.{book_of}
use Rattle.book_label.proofs.Meant.{book-good, table-accepted, asks-code}
use Rattle.refusal.proofs.Passed.{said-passed}
use Rattle.book_label.proofs.asked.in_code.Goals as goal

pub returns-then-outward_fault-ne0 : goal.returns-then-outward_fault-ne0
returns-then-outward_fault-ne0 c =
    rw c.into.ensures
    (code_refused (book_of c.args.book.now c.args.table.now) (sym c.check_source.ensures ∙ c.in_ok-check_source.was)
    c.args.first c.args.count c.args.out.now c.args.code.now (rw c.outward_fault.ensures at c.if-outward_fault-ne0.true) c.args.listed)

pub walk-requires : goal.walk-requires
walk-requires c =
    let taken = sym c.check_source.ensures ∙ c.in_ok-check_source.was in
    (book-good c.args.book.now c.args.table.now taken, table-accepted c.args.book.now c.args.table.now taken)

pub returns : goal.returns
returns c =
    let taken = sym c.check_source.ensures ∙ c.in_ok-check_source.was in
    let clean = rw c.outward_fault.ensures at c.if-outward_fault-ne0.false in
    c.walk.ensures
    ∙ code-shown (book_of c.args.book.now c.args.table.now) taken c.args.first c.args.count c.args.out.now c.args.code.now clean _
    (asks-code c.args.book.now c.args.table.now taken c.args.code.now clean) c.args.listed

pub returns-in_err-check_source : goal.returns-in_err-check_source
returns-in_err-check_source c =
    said-passed _ c.from_residual.ensures.1
    ∙ (files_refused (book_of c.args.book.now c.args.table.now) (sym c.check_source.ensures ∙ c.in_err-check_source.was)
    c.args.first c.args.count c.args.out.now c.args.code.now c.args.listed)
