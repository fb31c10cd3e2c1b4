-- When a call on the bytes of a book and a step on what is present are one: what a reader of the theorems has to believe.
-- Assumes nothing.
use Rattle.std.specs.Prelude.{ℕ, suc, ◌<◌, ◌≡◌, true, List, [], ◌∷◌, length}
use Rattle.std.proofs.Math.Option.{Option, none, some}
use Rattle.file_record.specs.Names.Point
use Rattle.refusal.specs.declared.Reason.TheVariants.{Later}
use Rattle.refusal.specs.declared.LaterReason.TheVariants.{Unpaired}
use Rattle.refusal.specs.Outcome.{Outcome, said}
use Rattle.book.specs.Layout.{book_length, slot_at, count_of, place_of, zeros}
use Rattle.book.specs.Book.{well_kept, is_book}
use Rattle.book.specs.Meaning.{Present, means}
use Rattle.book.specs.Event.{Event, insert, remove, replace, Step, unchanged, changed, step_of, event_done}
use Rattle.std.specs.Prelude.{Ok}
use Rattle.refusal.specs.Answer.{Answer, refusal}

-- what a book may keep: a live view and what follows it, two records
pub record Keepable (e : Present) : Type 0 where
  pub view_long : length e.view ≡ Point.width
  pub follower_long : length e.follower ≡ Point.width
  pub kept : well_kept e.view e.follower ≡ true

-- an event brings nothing else
abbrev pub EventFine : Event → Type 0
EventFine (insert e) = Keepable e
EventFine (remove id) = Unit {0}
EventFine (replace e) = Keepable e

-- an accepted call: the place concerned, and a book again, which means what is present then
pub record Changed (outcome : Outcome Answer) (place : ℕ) (present : List Present) : Type 0 where
  pub answer : outcome.answer ≡ Ok place
  pub book : is_book outcome.memory ≡ true
  pub meaning : means outcome.memory ≡ present

-- what came of a book is what a step says; "a refused call leaves the book as it was"
abbrev pub StepAgrees : (book : List ℕ) → Outcome Answer → Step → Type 0
StepAgrees book outcome (unchanged why) = outcome ≡ said (refusal 0 why) book
StepAgrees book outcome (changed place present) = Changed outcome place present

-- what came of a view that is there: 19 where it names no event, else the step of the event that it names
abbrev pub NamedAgrees : (book : List ℕ) → Outcome Answer → Option Event → Type 0
NamedAgrees book outcome none = outcome ≡ said (refusal 0 (Later Unpaired)) book
NamedAgrees book outcome (some e) = StepAgrees book outcome (step_of e (means book))

-- a tidied book: "places 1, 2 and so on stand in the first slots, in order; value the count", and it means the same
pub record Tidied (book : List ℕ) (outcome : Outcome Answer) : Type 0 where
  pub answer : outcome.answer ≡ Ok (count_of book)
  pub book_again : is_book outcome.memory ≡ true
  pub meaning : means outcome.memory ≡ means book
  pub count : count_of outcome.memory ≡ count_of book
  pub in_order : (s : ℕ) → s < count_of book → place_of (slot_at outcome.memory s) ≡ suc s

-- ---- events one after the other

-- "All zeros is the empty book."
unfoldable pub empty_book : List ℕ
empty_book = zeros book_length

abbrev pub book_after : (book : List ℕ) → List Event → List ℕ
book_after book [] = book
book_after book (e ∷ more) = book_after (event_done book (some e)).memory more

abbrev pub said_after : (book : List ℕ) → List Event → List Answer
said_after book [] = []
said_after book (e ∷ more) = (event_done book (some e)).answer ∷ said_after (event_done book (some e)).memory more

-- the same of steps: what is present after one, and what it answers
abbrev pub stepped : List Present → Step → List Present
stepped present (unchanged why) = present
stepped present (changed place next) = next

abbrev pub answered : Step → Answer
answered (unchanged why) = refusal 0 why
answered (changed place next) = Ok place

abbrev pub present_after : List Present → List Event → List Present
present_after present [] = present
present_after present (e ∷ more) = present_after (stepped present (step_of e present)) more

abbrev pub answers_after : List Present → List Event → List Answer
answers_after present [] = []
answers_after present (e ∷ more) =
    answered (step_of e present) ∷ answers_after (stepped present (step_of e present)) more

abbrev pub EventsFine : List Event → Type 0
EventsFine [] = Unit {0}
EventsFine (e ∷ more) = EventFine e × EventsFine more

-- a book after events is a book, and answers and means what the steps say, from what it meant before
pub record RunAgrees (book : List ℕ) (present : List Present) (events : List Event) : Type 0 where
  pub book_again : is_book (book_after book events) ≡ true
  pub meaning : means (book_after book events) ≡ present_after present events
  pub answers : said_after book events ≡ answers_after present events
