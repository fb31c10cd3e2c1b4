-- A book: that it and a table file are apt, what its calls say, what its events do, and unused rows.
-- Assumes nothing.
use Prim.Native.Nat.{ℕ, suc, ◌+◌, ◌≤◌, ◌<◌}
use mathlib.Core.Path.{◌≡◌, refl, ap, ◌∙◌}
use mathlib.Core.Bool.{Bool, true, false, cond}
use mathlib.Core.List.{List, [], ◌∷◌}
use mathlib.Core.Option.{Option, none, some}
use mathlib.Core.Logic.{inl, inr}
use native.Mathlib.Omega.{arith}
use borrow.Author.Tests.{eqb-true, eqb-false, ltb-true}
use lib.Dec.{eqb, ltb, lit<}
use lib.ListN.{length, get_or, length-append}
use Rattle.file_record.specs.Parts.{record_at}
use Rattle.field_outward.specs.Outward.{outward_fault}
use Rattle.refusal.specs.declared.Reason.{Reason}
use Rattle.refusal.specs.declared.Reason.TheVariants.{NoSuchNumber, BadCode, Later}
use Rattle.refusal.specs.declared.LaterReason.TheVariants.{InsertedTwice, NotPresent, Unpaired, NoFreeSlot, NotABook}
use Rattle.refusal.specs.Outcome.{Outcome, said, after, afterwards}
use Rattle.refusal.specs.Refusal.{detail, second}
use Rattle.refusal.specs.Packed.{Fits}
use Rattle.refusal.proofs.Outcomes.{afterwards-refused}
use Rattle.file.specs.Check.{records, checked}
use Rattle.file.specs.Formats.{table_format, point_format}
use Rattle.file.specs.Accepted.{Accepted}
use Rattle.file.proofs.Accepted.{accepts, accepted}
use Rattle.source.specs.Resolve.{elements_of}
use Rattle.source.specs.Same.{AllOf}
use Rattle.item.proofs.Decimals.{decimal-short}
use Rattle.label.specs.Widths as Widths
use Rattle.ask.specs.Source.{in_code}
use Rattle.changes_source.specs.Rows.{table_lookup}
use Rattle.changes_source.specs.Addresses.{address_of}
use Rattle.changes_views.specs.Views.{wanted_at}
use Rattle.changes_meaning.proofs.Meant.{address-fits}
use Rattle.changes_sound.proofs.Rows.{rows-sound}
use Rattle.changes_sound.proofs.Follower.{follower-there}
use Rattle.book.specs.Layout.{slots, slot_at, count_of}
use Rattle.book.specs.Book.{identity, keeper, is_book, book_judged}
use Rattle.book.specs.Meaning.{Present, means}
use Rattle.book.specs.Event.{Event, insert, remove, replace, Step, unchanged, changed, step_of, event_at, free_in, is_kept, place_kept, insertion, removal, replacement, event_done, event_outcome, tidy_outcome}
use Rattle.book.specs.Agrees.{NamedAgrees, StepAgrees, stepped}
use Rattle.book.proofs.Good.{BookFacts, book-facts, facts-book}
use Rattle.book.proofs.Named.{FollowersFine, call-means, call_none}
use Rattle.book.proofs.Empty.{empty-book, empty-means, every-run}
use Rattle.book.proofs.Tidy.{tidy-tidied}
use Rattle.book_source.specs.Source.{addresses_from, addresses_of, place_line, book_of, book_live}
use Rattle.book_source.specs.Starts.{records_at, place_before, addresses_at, starts_in, AllInside}
use Rattle.book_source.proofs.Walked.{all-starts, starts-inside}
use Rattle.book_label.proofs.Laws.{record-first}
use Rattle.book_label.proofs.Meant.{is-book, book-good, table-accepted}
use Rattle.book_sound.proofs.Addresses.{book-fields}
use Rattle.book_sound.proofs.Size.{book-count}
use Rattle.book_sound.proofs.Sound.{book-sound}
use Rattle.demands.specs.Three.{Packable}
use Rattle.demands.specs.Apart.{OfBook, AnswerIs}
use Rattle.demands.specs.Apt.{WholeBy, Judging, Numbered, AptViews, AptBy}
use Rattle.demands.specs.Book.{Named, event_in, event_of, present_called, present_with, History, BookKept, BookUnmoved}
use Rattle.demands.proofs.Two.{all-bounded}
use Rattle.pack_sound.proofs.Elements.{all-printed}
use Rattle.demands.proofs.Capitals.{all-capital}
use Rattle.demands.proofs.Says.{then_is, table-says, code-few}
use Rattle.demands.proofs.Unused.{fields_fit, unmoved}
use Rattle.std.specs.Prelude.{Ok, Err}
use Rattle.refusal.specs.Answer.{Answer, refusal}

-- ---- as a source

-- what may refuse a call over no book may refuse one over a book
wider : (a : Answer) → Judging a → AnswerIs (WholeBy OfBook) a
wider (Ok n) h = tt
wider (Err r) h = record { apart = inl h.apart; fits = h.fits }

-- "28 not a book"
pub book-says : (book : List ℕ) → AnswerIs (WholeBy OfBook) (book_judged book)
unfolding book_judged
book-says book = by-test (is_book book)
  where
    by-test : (t : Bool) → AnswerIs (WholeBy OfBook) (cond t (Ok (count_of book)) (refusal 0 (Later NotABook)))
    by-test true = tt
    by-test false =
        record {
          apart = inr refl;
          fits = record { file_fits = lit< tt; second_fits = lit< tt; detail_fits = lit< tt };
        }

-- the places are few
numbered-from : (p : ℕ) (present : List Present) → p + length present ≤ 1_048_576 → AllOf Numbered (addresses_from p present)
unfolding address_of
numbered-from p [] h = tt
numbered-from p (e ∷ more) h = (omega arith, numbered-from (suc p) more (omega arith))

addresses-long : (p : ℕ) (present : List Present) → length (addresses_from p present) ≡ length present
addresses-long p [] = refl
addresses-long p (e ∷ more) = ap suc (addresses-long (suc p) more)

module _ (book table : List ℕ) (facts : BookFacts book) (t : Accepted table_format table) where
  starts_fit : (starts : List ℕ) → AllInside book starts
      → AllOf (λ a. Widths.Fits (elements_of (table_lookup table) a)) (addresses_at book starts)
  starts_fit [] all = tt
  starts_fit (at ∷ more) all =
      (address-fits table (records_at book at) t 0 (record-first book at all.0) (place_before book at), starts_fit more all.1)

  few : length (addresses_of book) ≤ 256
  few = omega (arith, book-count book, facts.few)

  pub book-views : AptViews (table_lookup table) (addresses_of book)
  unfolding addresses_of
  book-views =
      record {
        bounded =
            all-bounded (table_lookup table) (addresses_of book)
            (rw (all-starts book facts) (starts_fit (starts_in [] book) (starts-inside book facts [])));
        capital =
            all-capital (table_lookup table) (addresses_of book)
            (all-printed (table_lookup table) (rows-sound table t) (addresses_of book) (book-fields book facts));
        numbered = numbered-from 1 (means book) (omega (arith, few, addresses-long 1 (means book)));
        few = omega (arith, few);
      }

pub place-line-short : (place : ℕ) → place < 1_048_576 → length (place_line place) ≤ 80
place-line-short place h = simp length-append (omega (arith, decimal-short place (omega (arith, h))))

module _ (book table : List ℕ) where
  book-taken : {n : ℕ} → (book_of book table).judged ≡ Ok n → BookFacts book × Accepted table_format table
  book-taken e = (book-facts book (book-good book table e), table-accepted book table e)

  book-packable : Packable (book_of book table)
  book-packable =
      record { sound = λ taken code clean fine. let (f, t) = book-taken taken in book-sound book table code f t clean fine }

  pub book-apt : AptBy OfBook (book_of book table)
  book-apt =
      record {
        judges =
            then_is (WholeBy OfBook) (book_judged book) (checked table_format table) (book-says book)
            (wider (checked table_format table) (table-says table));
        views = λ e. let (f, t) = book-taken e in book-views book table f t;
        live = λ e. let (f, t) = book-taken e in book-views book table f t;
        headed = λ a h. place-line-short a.view h;
        packable = book-packable;
      }

-- ---- what its calls say

refused-fits : (why : Reason) → second why ≡ 0 → detail why ≡ 0 → Fits (refusal 0 why)
refused-fits why s d =
    record { file_fits = lit< tt; second_fits = omega (arith, s); detail_fits = omega (arith, d) }

judged-fits : (book : List ℕ) → Fits (book_judged book)
unfolding book_judged
judged-fits book = by-test (is_book book) refl
  where
    by-test : (t : Bool) → is_book book ≡ t → Fits (cond t (Ok (count_of book)) (refusal 0 (Later NotABook)))
    by-test true e = omega (arith, (book-facts book e).few)
    by-test false e = refused-fits (Later NotABook) refl refl

-- behind a book that is one
behind-fits : (book : List ℕ) (next : Outcome Answer) → (BookFacts book → Fits next.answer)
    → Fits (afterwards refusal (book_judged book) book next).answer
behind-fits book next fits = by-judged (book_judged book) refl (judged-fits book)
  where
    by-judged : (j : Answer) → book_judged book ≡ j → Fits j → Fits (afterwards refusal j book next).answer
    by-judged (Ok n) e h = fits (book-facts book (is-book book e))
    by-judged (Err r) e h = h

module _ (book : List ℕ) (facts : BookFacts book) where
  place-fits : (id : List ℕ) → is_kept book id ≡ true → place_kept book id ≤ 256
  place-fits id e =
      let low : keeper (slot_at book) id < slots = ltb-true (keeper (slot_at book) id) slots e in
      omega (arith, facts.few, facts.good.placed (keeper (slot_at book) id) low)

  absent-fits : (id after : List ℕ)
      → Fits (cond (is_kept book id) (said (Ok (place_kept book id)) after) (said (refusal 0 (Later NotPresent)) book)).answer
  absent-fits id after = by-test (is_kept book id) refl
    where
      by-test : (t : Bool) → is_kept book id ≡ t
          → Fits (cond t (said (Ok (place_kept book id)) after) (said (refusal 0 (Later NotPresent)) book)).answer
      by-test true e = omega (arith, place-fits id e)
      by-test false e = refused-fits (Later NotPresent) refl refl

  done-fits : (e : Option Event) → Fits (event_done book e).answer
  unfolding insertion removal replacement
  done-fits none = refused-fits (Later Unpaired) refl refl
  done-fits (some (insert e)) = by_tests (is_kept book (identity e.view)) (ltb (free_in (slot_at book)) slots) _
    where
      by_tests : (t u : Bool) (after : List ℕ)
          → Fits
          (cond t (said (refusal 0 (Later InsertedTwice)) book)
          (cond u (said (Ok (suc (count_of book))) after) (said (refusal 0 (Later NoFreeSlot)) book))).answer
      by_tests true u after = refused-fits (Later InsertedTwice) refl refl
      by_tests false true after = omega (arith, facts.few)
      by_tests false false after = refused-fits (Later NoFreeSlot) refl refl
  done-fits (some (remove id)) = absent-fits id _
  done-fits (some (replace e)) = absent-fits (identity e.view) _

pub book-fits : (book : List ℕ) → Fits (book_judged book)
book-fits = judged-fits

pub tidy-fits : (book : List ℕ) → Fits (tidy_outcome book).answer
unfolding tidy_outcome
tidy-fits book = behind-fits book _ (λ facts. omega (arith, facts.few))

pub event-fits : (book points : List ℕ) (view : ℕ) → Fits (checked point_format points)
    → Fits (event_outcome book points view).answer
unfolding event_outcome
event-fits book points view fits = behind-fits book _ (λ facts. by-judged facts (checked point_format points) fits)
  where
    by_place : (t : Bool) → BookFacts book
        → Fits (cond t (said (refusal 0 NoSuchNumber) book) (event_done book (event_at points (wanted_at [] points view)))).answer
    by_place true facts = refused-fits NoSuchNumber refl refl
    by_place false facts = done-fits book facts (event_at points (wanted_at [] points view))

    by-judged : BookFacts book → (j : Answer) → Fits j
        → Fits
        (afterwards refusal j book
        (cond (eqb (wanted_at [] points view) 0) (said (refusal 0 NoSuchNumber) book)
        (event_done book (event_at points (wanted_at [] points view))))).answer
    by-judged facts (Ok n) h = by_place (eqb (wanted_at [] points view) 0) facts
    by-judged facts (Err r) h = h

pub present-fits : (book code : List ℕ) → Fits (book_live book code)
unfolding book_live
present-fits book code = by-judged (book_judged book) refl (judged-fits book)
  where
    by-code : (t : Bool) → BookFacts book
        → Fits (cond t (Ok (length (in_code code (addresses_of book)))) (refusal 0 BadCode))
    by-code true facts = omega (arith, code-few code (addresses_of book), book-count book, facts.few)
    by-code false facts = refused-fits BadCode refl refl

    by-judged : (j : Answer) → book_judged book ≡ j → Fits j
        → Fits
        (after j (cond (eqb (outward_fault code) 0) (Ok (length (in_code code (addresses_of book)))) (refusal 0 BadCode)))
    by-judged (Ok n) e h = by-code (eqb (outward_fault code) 0) (book-facts book (is-book book e))
    by-judged (Err r) e h = h

-- ---- what its events do

followers-fine : (points : List ℕ) → Accepted point_format points → FollowersFine points
followers-fine points p i low high view due =
    (follower-there points p i low high (eqb-true (get_or (record_at 168 points i) 41 0) 49 view) due).1

-- a step that agrees leaves a book, and what is present
step-again : (book : List ℕ) (o : Outcome Answer) (step : Step) → is_book book ≡ true → StepAgrees book o step
    → (is_book o.memory ≡ true) × (means o.memory ≡ stepped (means book) step)
step-again book o (unchanged why) is agrees =
    (ap (λ (x : Outcome Answer). is_book x.memory) agrees ∙ is, ap (λ (x : Outcome Answer). means x.memory) agrees)
step-again book o (changed place present) is agrees = (agrees.book, agrees.meaning)

named_again : (book : List ℕ) (o : Outcome Answer) (e : Option Event) → is_book book ≡ true → NamedAgrees book o e
    → (is_book o.memory ≡ true) × (means o.memory ≡ present_with (means book) e)
named_again book o none is agrees =
    (ap (λ (x : Outcome Answer). is_book x.memory) agrees ∙ is, ap (λ (x : Outcome Answer). means x.memory) agrees)
named_again book o (some e) is agrees = step-again book o (step_of e (means book)) is agrees

-- a call that leaves the book
left-again : (book : List ℕ) (o : Outcome Answer) (a : Answer) → is_book book ≡ true → o ≡ said a book
    → (is_book o.memory ≡ true) × (means o.memory ≡ means book)
left-again book o a is e =
    (ap (λ (x : Outcome Answer). is_book x.memory) e ∙ is, ap (λ (x : Outcome Answer). means x.memory) e)

file_refused : (book points : List ℕ) (view : ℕ) {file : ℕ} {why : Reason} → is_book book ≡ true
    → checked point_format points ≡ refusal file why
    → event_outcome book points view ≡ said (refusal file why) book
unfolding event_outcome book_judged
file_refused book points view is e = simp is (afterwards-refused refusal book _ e)

called-again : (book : List ℕ) → is_book book ≡ true → (c : Named)
    → (is_book (event_outcome book c.points c.view).memory ≡ true)
    × (means (event_outcome book c.points c.view).memory ≡ present_with (means book) (event_of c))
called-again book is c = by-judged (checked point_format points) refl
  where
    points : List ℕ
    points = c.points

    place : ℕ
    place = wanted_at [] points c.view

    Again : Option Event → Type 0
    Again e =
        (is_book (event_outcome book points c.view).memory ≡ true)
        × (means (event_outcome book points c.view).memory ≡ present_with (means book) e)

    by_place : (t : Bool) → eqb place 0 ≡ t → (n : ℕ) → checked point_format points ≡ Ok n
        → Again (cond t none (event_at points place))
    by_place true e n taken =
        left-again book _ _ is (call_none book points c.view n is taken (eqb-true place 0 e))
    by_place false e n taken =
        named_again book _ (event_at points place) is
        (call-means book points c.view n is taken (followers-fine points (accepted point_format points n taken))
        (eqb-false place 0 e))

    by-judged : (j : Answer) → checked point_format points ≡ j → Again (event_in j points place)
    by-judged (Ok n) e = by_place (eqb place 0) refl n e
    by-judged (Err r) e = left-again book _ (refusal r.file r.reason) is (file_refused book points c.view is e)

calls-again : (calls : List Named) (book : List ℕ) → is_book book ≡ true → History book calls
calls-again [] book is = record { again = is; meaning = refl }
calls-again (c ∷ more) book is =
    let (again, meaning) = called-again book is c in
    let rest = calls-again more (event_outcome book c.points c.view).memory again in
    record { again = rest.again; meaning = rest.meaning ∙ ap (λ (l : List Present). present_called l more) meaning }

pub book-kept : BookKept
book-kept =
    record {
      event = λ book points view n is taken there.
          call-means book points view n is taken (followers-fine points (accepted point_format points n taken)) there;
      empty = (empty-book, empty-means);
      from_empty = every-run;
      history = λ book is calls. calls-again calls book is;
      tidied = tidy-tidied;
    }

-- ---- unused rows

taken-by : (book table : List ℕ) → BookFacts book → Accepted table_format table
    → (book_of book table).judged ≡ Ok (records table_format table)
unfolding book_judged
taken-by book table facts t = rw (facts-book book facts, accepts table_format table t)

pub book_unmoved : BookUnmoved
book_unmoved =
    record {
      book_unmoved = λ book one other is t u same.
          let facts = book-facts book is in
          unmoved (book_of book one) (book_of book other) (taken-by book one facts t) (taken-by book other facts u) refl refl refl
          same same (fields_fit (addresses_of book) (book-fields book facts));
    }
