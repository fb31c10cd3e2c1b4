use mathlib.Core.Path.{sym, ◌∙◌}
use Rattle.refusal.proofs.Outcomes.{afterwards-refused}
use Rattle.ask.specs.Labels.{view_label}
use Rattle.book_label.proofs.Meant.{book-good, table-accepted, view-label}
use Rattle.refusal.specs.Answer.{refusal}
use Rattle.refusal.proofs.Passed.{said-passed}
use Rattle.book_label.proofs.label_of_place.Goals as goal

pub label_among-requires : goal.label_among-requires
label_among-requires c =
    let taken = sym c.check_source.ensures ∙ c.in_ok-check_source.was in
    (book-good c.args.book.now c.args.table.now taken, table-accepted c.args.book.now c.args.table.now taken)

pub returns : goal.returns
returns c =
    let taken = sym c.check_source.ensures ∙ c.in_ok-check_source.was in
    c.label_among.ensures ∙ view-label c.args.book.now c.args.table.now taken c.args.place c.args.out.now

pub returns-in_err-check_source : goal.returns-in_err-check_source
unfolding view_label
returns-in_err-check_source c =
    said-passed _ c.from_residual.ensures.1
    ∙ sym (afterwards-refused refusal c.args.out.now _ (sym c.check_source.ensures ∙ c.in_err-check_source.was))
