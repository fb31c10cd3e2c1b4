-- Of a run and of a listing the number tells what it is: "reports .. that label's own refusal. Only a refused file, pack or
-- code refuses the whole."
-- Assumes nothing.
use Rattle.std.specs.Prelude.{ℕ, ◌≤◌, ◌≡◌, List, ◌⊎◌}
use Rattle.refusal.specs.declared.Reason.{Reason}
use Rattle.refusal.specs.Refusal.{number}
use Rattle.call.specs.Call.{Lent, pair, set, a_book, Call, of_labels, of_code_labels, of_list, of_code_list, of_pack_list, Saying, one, run}
use Rattle.std.specs.Prelude.{Ok, Err}
use Rattle.refusal.specs.Answer.{Answer}
use Rattle.run.specs.Series.{Series}
use Rattle.run.specs.declared.Run.TheVariants.{Stopped, Done}

-- a label's own refusal, and one of the whole
abbrev pub OfLabel : Reason → Type 0
OfLabel why = (7 ≤ number why) × (number why ≤ 10)

abbrev pub OfWhole : Reason → Type 0
OfWhole why = (number why ≤ 6) ⊎ ((11 ≤ number why) × (number why ≤ 12))

-- where a book is lent, also "28 not a book" (document 02, No. 10)
abbrev pub OfBook : Reason → Type 0
OfBook why = OfWhole why ⊎ (number why ≡ 28)

-- so what refuses the whole depends on what is lent
abbrev pub WholeFor : Lent → Reason → Type 0
WholeFor (pair table points) = OfWhole
WholeFor (set s) = OfWhole
WholeFor (a_book book table) = OfBook

-- a refusal of a set: "1 to 5 under the new limit .., behind the file's number, 1 to 7 as listed .. 6 doesn't occur"
abbrev pub OfSet : (file : ℕ) → Reason → Type 0
OfSet file why = (1 ≤ file) × ((file ≤ 7) × (number why ≤ 5))

-- an answer whose refusals are of a kind, with the file to blame
abbrev pub AnswerIs : (Kind : ℕ → Reason → Type 0) → Answer → Type 0
AnswerIs Kind (Ok n) = Unit {0}
AnswerIs Kind (Err r) = Kind r.file r.reason

-- an item's: "It stops with 7 where no such view is left and with 10 before the first that does not fit in what is left"
abbrev pub OfItem : Reason → Type 0
OfItem why = (number why ≡ 7) ⊎ (number why ≡ 10)

-- what stops it is of a kind, and what refuses the whole of another
abbrev pub SeriesApart : (Whole Stop : Reason → Type 0) → Series → Type 0
SeriesApart Whole Stop (Err r) = Whole r.reason
SeriesApart Whole Stop (Ok (Stopped labels bytes why)) = Stop why
SeriesApart Whole Stop (Ok (Done labels bytes)) = Unit {0}

abbrev pub StopsBy : (Stop : Reason → Type 0) → Series → Type 0
StopsBy = SeriesApart OfWhole

abbrev pub ToldApart : Series → Type 0
ToldApart = StopsBy OfLabel

abbrev pub Apart : Saying → Type 0
Apart (one answer) = Unit {0}
Apart (run series) = ToldApart series

-- the same of any call, a book lent or not
abbrev pub SayingApart : (Whole Stop : Reason → Type 0) → Saying → Type 0
SayingApart Whole Stop (one answer) = Unit {0}
SayingApart Whole Stop (run series) = SeriesApart Whole Stop series

abbrev pub BookApart : Saying → Type 0
BookApart = SayingApart OfBook OfLabel

-- a run or a listing over a book
pub data IsBook : Lent → Type 0 where
  book_lent : {book table : List ℕ} → IsBook (a_book book table)

pub data ForBook : Call → Type 0 where
  book_run : {lent : Lent} {first count : ℕ} → IsBook lent → ForBook (of_labels lent first count)
  book_code_run : {lent : Lent} {code : List ℕ} {first count : ℕ} → IsBook lent → ForBook (of_code_labels lent code first count)
  book_list : {lent : Lent} {first count : ℕ} → IsBook lent → ForBook (of_list lent first count)
  book_code_list : {lent : Lent} {code : List ℕ} {first count : ℕ} → IsBook lent → ForBook (of_code_list lent code first count)

-- a listing
pub data IsList : Call → Type 0 where
  views_listed : {lent : Lent} {first count : ℕ} → IsList (of_list lent first count)
  code_listed : {lent : Lent} {code : List ℕ} {first count : ℕ} → IsList (of_code_list lent code first count)
  pack_listed : {pack : List ℕ} {first count : ℕ} → IsList (of_pack_list pack first count)

-- "A refused label does not stop a listing": nor does 8 or 9
abbrev pub ListStops : Saying → Type 0
ListStops (one answer) = Unit {0}
ListStops (run series) = StopsBy OfItem series

-- of any call, a book lent or not
abbrev pub BookListStops : Saying → Type 0
BookListStops = SayingApart OfBook OfItem
