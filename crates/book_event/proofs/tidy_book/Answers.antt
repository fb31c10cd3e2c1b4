use mathlib.Core.Path.{sym, ap, ◌∙◌}
use Rattle.refusal.proofs.Outcomes.{said-as, afterwards-value, afterwards-refused}
use Rattle.book.specs.Event.{tidy_outcome}
use Rattle.book_event.proofs.Events.{judged-is}
use Rattle.std.specs.Prelude.{Ok}
use Rattle.refusal.specs.Answer.{refusal}
use Rattle.refusal.proofs.Passed.{said-passed}
use Rattle.book_event.proofs.tidy_book.Goals as goal

pub tidy-requires : goal.tidy-requires
tidy-requires c =
    judged-is c.args.book.now (sym c.check_book.ensures ∙ c.in_ok-check_book.was)

pub returns : goal.returns
unfolding tidy_outcome
returns c =
    let a = c.args in
    let done = c.tidy.ensures in
    said-as (ap Ok done.0) done.1
    ∙ sym (afterwards-value refusal a.book.now _ (sym c.check_book.ensures ∙ c.in_ok-check_book.was))

pub returns-in_err-check_book : goal.returns-in_err-check_book
unfolding tidy_outcome
returns-in_err-check_book c =
    let a = c.args in
    said-passed _ c.from_residual.ensures.1
    ∙ sym (afterwards-refused refusal a.book.now _ (sym c.check_book.ensures ∙ c.in_err-check_book.was))
