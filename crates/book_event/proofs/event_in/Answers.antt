use mathlib.Core.Path.{sym, ap, ◌∙◌}
use Rattle.refusal.proofs.Outcomes.{afterwards-value, afterwards-refused}
use Rattle.book.specs.Event.{event_from}
use Rattle.book_event.proofs.Events.{wanted-place}
use Rattle.refusal.specs.Answer.{refusal}
use Rattle.refusal.proofs.Passed.{said-passed}
use Rattle.book_event.proofs.event_in.Goals as goal

pub event_from-requires : goal.event_from-requires
event_from-requires c =
    (c.requires, rw c.wanted_at-place.ensures (wanted-place c.args.points.now c.args.view))

pub returns : goal.returns
returns c =
    let a = c.args in
    c.event_from.ensures
    ∙ (ap (event_from a.book.now a.points.now) c.wanted_at-place.ensures
    ∙ sym (afterwards-value refusal a.book.now _ (sym c.check_points.ensures ∙ c.in_ok-check_points.was)))

pub returns-in_err-check_points : goal.returns-in_err-check_points
returns-in_err-check_points c =
    let a = c.args in
    said-passed _ c.from_residual.ensures.1
    ∙ sym (afterwards-refused refusal a.book.now _ (sym c.check_points.ensures ∙ c.in_err-check_points.was))
