use mathlib.Core.Path.{sym, ◌∙◌}
use Rattle.refusal.proofs.Outcomes.{afterwards-value, afterwards-refused}
use Rattle.book.specs.Event.{event_outcome}
use Rattle.book_check.proofs.Kept.{book-long}
use Rattle.book_event.proofs.Events.{judged-is}
use Rattle.refusal.specs.Answer.{refusal}
use Rattle.refusal.proofs.Passed.{said-passed}
use Rattle.book_event.proofs.book_event.Goals as goal

pub event_in-requires : goal.event_in-requires
event_in-requires c =
    let book = c.args.book.now in
    book-long book (judged-is book (sym c.check_book.ensures ∙ c.in_ok-check_book.was))

pub returns : goal.returns
unfolding event_outcome
returns c =
    let a = c.args in
    c.event_in.ensures
    ∙ sym (afterwards-value refusal a.book.now _ (sym c.check_book.ensures ∙ c.in_ok-check_book.was))

pub returns-in_err-check_book : goal.returns-in_err-check_book
unfolding event_outcome
returns-in_err-check_book c =
    let a = c.args in
    said-passed _ c.from_residual.ensures.1
    ∙ sym (afterwards-refused refusal a.book.now _ (sym c.check_book.ensures ∙ c.in_err-check_book.was))
