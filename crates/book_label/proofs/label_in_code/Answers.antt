use mathlib.Core.Path.{sym, ◌∙◌}
use Rattle.ask.specs.Labels.{code_label}
use Rattle.ask.proofs.Laws.{by-bad-code, by-refused}
use Rattle.book_source.specs.Source.{book_of}
use Rattle.book_label.proofs.Meant.{book-good, table-accepted, code-label}
use Rattle.refusal.specs.Answer.{refusal}
use Rattle.refusal.proofs.Passed.{said-passed}
use Rattle.book_label.proofs.label_in_code.Goals as goal

pub returns-then-outward_fault-ne0 : goal.returns-then-outward_fault-ne0
unfolding code_label
returns-then-outward_fault-ne0 c =
    rw c.into.ensures
    (sym
    (by-bad-code refusal c.args.code.now c.args.out.now _ (book_of c.args.book.now c.args.table.now)
    (sym c.check_source.ensures ∙ c.in_ok-check_source.was) (rw c.outward_fault.ensures at c.if-outward_fault-ne0.true)))

pub label_among-requires : goal.label_among-requires
label_among-requires c =
    let taken = sym c.check_source.ensures ∙ c.in_ok-check_source.was in
    (book-good c.args.book.now c.args.table.now taken, table-accepted c.args.book.now c.args.table.now taken)

pub returns : goal.returns
returns c =
    c.label_among.ensures
    ∙ code-label c.args.book.now c.args.table.now (sym c.check_source.ensures ∙ c.in_ok-check_source.was) c.args.code.now
    (rw c.outward_fault.ensures at c.if-outward_fault-ne0.false) c.args.k c.args.out.now

pub returns-in_err-check_source : goal.returns-in_err-check_source
unfolding code_label
returns-in_err-check_source c =
    said-passed _ c.from_residual.ensures.1
    ∙ (sym
    (by-refused refusal c.args.code.now c.args.out.now _ (book_of c.args.book.now c.args.table.now)
    (sym c.check_source.ensures ∙ c.in_err-check_source.was)))
