-- What is proved of a running address book (document 02, No. 10). What a book and a table file are as a source is among what
-- is lent, and so are labels, runs, listings, packs and demand 3.
-- Assumes nothing.
use Rattle.std.specs.Prelude.{ℕ, ◌≡◌, true, cond, List, [], ◌∷◌, eqb}
use Rattle.std.proofs.Math.Option.{Option, none, some}
use Rattle.file.specs.Check.{checked}
use Rattle.file.specs.Formats.{table_format, point_format}
use Rattle.file.specs.Accepted.{Accepted}
use Rattle.source.specs.Same.{AllAgree}
use Rattle.changes_source.specs.Rows.{table_lookup}
use Rattle.changes_views.specs.Views.{wanted_at}
use Rattle.book.specs.Book.{is_book}
use Rattle.book.specs.Meaning.{Present, means}
use Rattle.book.specs.Event.{Event, event_at, step_of, event_outcome, tidy_outcome}
use Rattle.book.specs.Agrees.{NamedAgrees, Tidied, empty_book, stepped, EventsFine, RunAgrees}
use Rattle.book_source.specs.Source.{addresses_of, book_of}
use Rattle.demands.specs.Unused.{Unmoved}
use Rattle.std.specs.Prelude.{Ok, Err}
use Rattle.refusal.specs.Answer.{Answer}

-- ---- events

-- a call for an event: any bytes as a point file, and the number of a view
pub record Named : Type 0 where
  pub points : List ℕ
  pub view : ℕ

-- the event that it names, if the file is accepted and has such a view
abbrev pub event_in : Answer → (points : List ℕ) → (place : ℕ) → Option Event
event_in (Ok n) points place = cond (eqb place 0) none (event_at points place)
event_in (Err r) points place = none

abbrev pub event_of : Named → Option Event
event_of call =
    event_in (checked point_format call.points) call.points (wanted_at [] call.points call.view)

-- what is present with it
abbrev pub present_with : List Present → Option Event → List Present
present_with present none = present
present_with present (some e) = stepped present (step_of e present)

-- a book, and what is present, after calls one behind the other
abbrev pub book_called : (book : List ℕ) → List Named → List ℕ
book_called book [] = book
book_called book (c ∷ more) = book_called (event_outcome book c.points c.view).memory more

abbrev pub present_called : List Present → List Named → List Present
present_called present [] = present
present_called present (c ∷ more) = present_called (present_with present (event_of c)) more

-- "every call that is accepted leaves a book that means the function's result and is a book again"
pub record History (book : List ℕ) (calls : List Named) : Type 0 where
  pub again : is_book (book_called book calls) ≡ true
  pub meaning : means (book_called book calls) ≡ present_called (means book) calls

pub record BookKept : Type 0 where
  -- "each event is one function on that list (append, remove, replace)": the answer, the book and what it means
  pub event : (book points : List ℕ) (view n : ℕ) → is_book book ≡ true → checked point_format points ≡ Ok n
      → (wanted_at [] points view ≡ 0 → ⊥)
      → NamedAgrees book (event_outcome book points view) (event_at points (wanted_at [] points view))
  -- "From empty, places list exactly what the accepted events say is present, in order of insertion"
  pub empty : (is_book empty_book ≡ true) × (means empty_book ≡ [])
  pub from_empty : (events : List Event) → EventsFine events → RunAgrees empty_book [] events
  -- the same of calls, whatever they lend, and from any book
  pub history : (book : List ℕ) → is_book book ≡ true → (calls : List Named) → History book calls
  -- "Tidying changes no meaning."
  pub tidied : (book : List ℕ) → is_book book ≡ true → Tidied book (tidy_outcome book)

-- ---- unused rows (No. 13)

-- two table files which, for every key that what is present refers to, have the same row or both none
abbrev pub SameForBook : (one other book : List ℕ) → Type 0
SameForBook one other book = AllAgree (table_lookup one) (table_lookup other) (addresses_of book)

pub record BookUnmoved : Type 0 where
  pub book_unmoved : (book one other : List ℕ) → is_book book ≡ true → Accepted table_format one → Accepted table_format other
      → SameForBook one other book
      → Unmoved (book_of book one) (book_of book other)
