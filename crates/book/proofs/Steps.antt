-- Every event on the bytes of a book is its step on what the book means.
-- Assumes nothing.
use Prim.Native.Nat.{ℕ}
use mathlib.Core.Path.{◌≡◌, sym, ap, ap₂, ◌∙◌}
use mathlib.Core.Bool.{true}
use mathlib.Core.List.{List}
use mathlib.Core.Option.{some}
use Rattle.refusal.specs.declared.Reason.{Reason}
use Rattle.refusal.specs.Outcome.{Outcome}
use Rattle.refusal.proofs.Answers.{refused-value, same-value, same-reason}
use Rattle.book.specs.Book.{is_book}
use Rattle.book.specs.Meaning.{means}
use Rattle.book.specs.Event.{Event, insert, remove, replace, Step, unchanged, changed, step_of, event_done}
use Rattle.book.specs.Agrees.{EventFine, StepAgrees}
use Rattle.book.proofs.Good.{book-facts}
use Rattle.book.proofs.Insertion.{insertion-agrees}
use Rattle.book.proofs.Removal.{removal-agrees}
use Rattle.book.proofs.Replacement.{replacement-agrees}
use Rattle.std.specs.Prelude.{Ok}
use Rattle.refusal.specs.Answer.{Answer, refusal}

pub event-means : (book : List ℕ) → is_book book ≡ true → (e : Event) → EventFine e
    → StepAgrees book (event_done book (some e)) (step_of e (means book))
event-means book is (insert e) fine = insertion-agrees book (book-facts book is) e fine
event-means book is (remove id) fine = removal-agrees book (book-facts book is) id
event-means book is (replace e) fine = replacement-agrees book (book-facts book is) e fine

-- read from the answer: a value is the place of the step, and the memory means what is present then
pub step_value : (book : List ℕ) (o : Outcome Answer) (step : Step) (p : ℕ) → StepAgrees book o step → o.answer ≡ Ok p
    → (step ≡ changed p (means o.memory)) × (is_book o.memory ≡ true)
step_value book o (unchanged why) p agrees e = absurd (refused-value 0 p why (ap (λ x. x.answer) (sym agrees) ∙ e))
step_value book o (changed place present) p agrees e =
    (ap₂ changed (same-value place p (sym agrees.answer ∙ e)) (sym agrees.meaning), agrees.book)

-- and a refusal is the step's, with the book as it was
pub step-refused : (book : List ℕ) (o : Outcome Answer) (step : Step) (file : ℕ) (why : Reason) → StepAgrees book o step
    → o.answer ≡ refusal file why
    → (step ≡ unchanged why) × (o.memory ≡ book)
step-refused book o (unchanged other) file why agrees e =
    let one : refusal 0 other ≡ refusal file why = ap (λ x. x.answer) (sym agrees) ∙ e in
    let reasons : other ≡ why = same-reason one in
    (ap unchanged reasons, ap (λ x. x.memory) agrees)
step-refused book o (changed place present) file why agrees e =
    absurd (refused-value file place why (sym e ∙ agrees.answer))
