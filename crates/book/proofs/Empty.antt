-- The empty book, and what every list of events makes of it.
-- Assumes nothing.
use Prim.Native.Nat.{ℕ, ◌+◌, ◌-◌, ◌*◌, ◌<◌}
use mathlib.Core.Path.{◌≡◌, refl, sym, ap, ap₂, subst, ◌∙◌}
use mathlib.Core.Bool.{true}
use mathlib.Core.List.{List, [], ◌∷◌}
use mathlib.Core.Option.{some}
use native.Mathlib.Omega.{arith}
use lib.ListN.{length}
use Rattle.refusal.specs.Outcome.{Outcome}
use Rattle.book.specs.Layout.{slots, slot_width, count_at, book_length, slot_at, count_of, zeros}
use Rattle.book.specs.Book.{is_book}
use Rattle.book.specs.Meaning.{Present, present_from, means}
use Rattle.book.specs.Event.{Event, Step, unchanged, changed, step_of, event_done}
use Rattle.book.specs.Agrees.{StepAgrees, empty_book, stepped, answered, EventsFine, RunAgrees}
use Rattle.book.proofs.Laid.{slot-here, zeros-long, zeros-only, zeros-part, zeros-number, zeros-place}
use Rattle.book.proofs.Good.{Good, good-same, facts-book}
use Rattle.book.proofs.Steps.{event-means}
use Rattle.refusal.specs.Answer.{Answer}

-- slots that are all free
none-good : Good (λ s. zeros slot_width) 0
none-good =
    record {
      placed = λ s h. omega (arith, zeros-place);
      once = λ s t h k u q. absurd (omega (arith, zeros-place));
      held = λ p h k. absurd (omega arith);
      kept = λ s h u. absurd (omega (arith, zeros-place));
      apart = λ s t h k u v q. absurd (omega (arith, zeros-place));
      free = λ s h z. zeros-only slot_width;
    }

-- as many zeros as a book has bytes
module _ (k : ℕ) (size : k ≡ book_length) where
  long : length (zeros k) ≡ book_length
  long = zeros-long k ∙ size

  slot-zeros : (s : ℕ) → s < slots → zeros slot_width ≡ slot_at (zeros k) s
  slot-zeros s h =
      let at = s * slot_width in
      let width : at + slot_width - at ≡ slot_width = omega arith in
      sym
      (slot-here (zeros k) long s h
      ∙ (zeros-part k at (at + slot_width) (omega arith) (omega arith) ∙ ap zeros width))

  count-zero : count_of (zeros k) ≡ 0
  count-zero = zeros-number k count_at (omega arith)

  zeros-book : is_book (zeros k) ≡ true
  zeros-book =
      facts-book (zeros k)
      (record {
        long = long;
        few = omega (arith, count-zero);
        good =
            subst (Good (slot_at (zeros k))) (sym count-zero)
            (good-same (λ s. zeros slot_width) (slot_at (zeros k)) 0 slot-zeros none-good);
      })

  zeros-mean : means (zeros k) ≡ []
  unfolding means
  zeros-mean = ap (λ n. present_from (slot_at (zeros k)) n 1) count-zero

-- "All zeros is the empty book."
pub empty-book : is_book empty_book ≡ true
unfolding empty_book
empty-book = zeros-book book_length refl

pub empty-means : means empty_book ≡ []
unfolding empty_book
empty-means = zeros-mean book_length refl

-- ---- events one after the other

-- what an event leaves, accepted or refused
record Left (outcome : Outcome Answer) (present : List Present) (step : Step) : Type 0 where
  pub book_again : is_book outcome.memory ≡ true
  pub meaning : means outcome.memory ≡ stepped present step
  pub answer : outcome.answer ≡ answered step

left-of : (book : List ℕ) → is_book book ≡ true → (outcome : Outcome Answer) (step : Step) → StepAgrees book outcome step
    → Left outcome (means book) step
left-of book is outcome (unchanged why) e =
    record {
      book_again = ap (λ o. is_book o.memory) e ∙ is;
      meaning = ap (λ o. means o.memory) e;
      answer = ap (λ o. o.answer) e;
    }
left-of book is outcome (changed place next) c = record { book_again = c.book; meaning = c.meaning; answer = c.answer }

pub run-agrees : (events : List Event) (book : List ℕ) → is_book book ≡ true → EventsFine events
    → RunAgrees book (means book) events
run-agrees [] book is fine = record { book_again = is; meaning = refl; answers = refl }
run-agrees (e ∷ more) book is fine =
    let left = left-of book is (event_done book (some e)) (step_of e (means book)) (event-means book is e fine.0) in
    let later : RunAgrees (event_done book (some e)).memory (stepped (means book) (step_of e (means book))) more =
    subst (λ present. RunAgrees (event_done book (some e)).memory present more) left.meaning
    (run-agrees more (event_done book (some e)).memory left.book_again fine.1) in
    record {
      book_again = later.book_again;
      meaning = later.meaning;
      answers = ap₂ ◌∷◌ left.answer later.answers;
    }

-- "places list exactly what the accepted events say is present, in order of insertion": every list of events
pub every-run : (events : List Event) → EventsFine events → RunAgrees empty_book [] events
every-run events fine =
    subst (λ present. RunAgrees empty_book present events) empty-means (run-agrees events empty_book empty-book fine)
