-- Of a run the refusal's number tells whether a label stopped it (7 to 10) or the whole is refused (none of these); a listing
-- stops by 7 or 10 alone. What refuses the whole is 1 to 6, 11 or 12, and 28 where a book is lent.
-- Assumes nothing.
use Prim.Native.Nat.{ℕ}
use mathlib.Core.Path.{◌≡◌, refl}
use mathlib.Core.List.{List}
use mathlib.Core.Logic.{inl, inr, ⊎_elim}
use lib.ListN.{length}
use native.Mathlib.Omega.{arith}
use Rattle.refusal.specs.Refusal.{number}
use Rattle.refusal.specs.declared.Reason.{Reason}
use Rattle.ask.specs.Runs.{views_run, code_run}
use Rattle.ask.specs.Lists.{views_list, code_list}
use Rattle.pack.specs.Opening.{point_count}
use Rattle.pack_runs.specs.Runs.{pack_run}
use Rattle.pack_items.specs.Lists.{pack_list}
use Rattle.call.specs.Call.{Lent, pair, set, a_book, source_of, Files, pair_files, set_files, lent_of, Call, of_table, of_points, of_views, of_letter, of_live, of_codes, of_main, of_main_live, of_main_codes, of_label, of_code_label, of_labels, of_code_labels, of_list, of_code_list, of_build, of_pack, of_pack_label, of_pack_labels, of_pack_list, of_pack_suffix, of_sector, of_unspace_table, of_unspace_points, of_csv_row, of_csv_rows, of_csv, of_csv_label, of_csv_labels, of_csv_list, of_book, of_book_live, of_book_event, of_book_tidy, Saying, one, run, outcome_of}
use Rattle.demands.specs.Apart.{OfLabel, OfWhole, OfBook, WholeFor, OfItem, SeriesApart, Apart, SayingApart, BookApart, IsBook, book_lent, ForBook, book_run, book_code_run, book_list, book_code_list, IsList, views_listed, code_listed, pack_listed, ListStops, BookListStops}
use Rattle.csv_paf.specs.Row.{view_rows}
use Rattle.csv_paf.specs.File.{rows_of}
use Rattle.csv_paf.specs.Ask.{csv_labels, csv_list}
use Rattle.demands.specs.Apt.{WholeBy}
use Rattle.demands.specs.Csv.{OfRow, OfCsvLabel, OfCsv, ForCsv, rows_written, rows_printed, rows_listed, CsvApart}
use Rattle.demands.proofs.Csv.{rows-say, lent_rows, csv-whole, csv-labels-say, csv-list-says}
use Rattle.demands.proofs.Says.{StopOf, StopSays, SeriesOf, SeriesBy, views-say, codes-say, packs-say, list-says, code-list-says, pack-list-says}
use Rattle.demands.proofs.Lent.{lent-apt, code-whole}
use Rattle.std.specs.Prelude.{Ok, Err}
use Rattle.run.specs.Series.{Series}
use Rattle.run.specs.declared.Run.TheVariants.{Stopped, Done}

-- what is said of a stop, and of what refuses the whole, holds of the run
series-apart : (Whole Stop : Reason → Type 0) (Judged : ℕ → Reason → Type 0) (Kind : Reason → Type 0)
    → ((file : ℕ) (why : Reason) → Judged file why → Whole why)
    → ((why : Reason) → Kind why → Stop why)
    → (limit : ℕ) (s : Series)
    → SeriesOf Judged Kind limit s
    → SeriesApart Whole Stop s
series-apart Whole Stop Judged Kind whole stop limit (Err r) h = whole r.file r.reason h
series-apart Whole Stop Judged Kind whole stop limit (Ok (Stopped labels bytes why)) h = stop why h.1
series-apart Whole Stop Judged Kind whole stop limit (Ok (Done labels bytes)) h = tt

module _ (Whole : Reason → Type 0) (limit : ℕ) (s : Series) where
  run-stops : SeriesBy Whole StopSays limit s → SeriesApart Whole OfLabel s
  run-stops = series-apart Whole OfLabel (WholeBy Whole) StopSays (λ file why h. h.apart) (λ why h. h.apart) limit s

  item-stops : SeriesBy Whole OfItem limit s → SeriesApart Whole OfItem s
  item-stops = series-apart Whole OfItem (WholeBy Whole) OfItem (λ file why h. h.apart) (λ why h. h) limit s

-- 7 and 10 are of a label
item-of-label : (Whole : Reason → Type 0) (s : Series) → SeriesApart Whole OfItem s → SeriesApart Whole OfLabel s
item-of-label Whole (Err r) h = h
item-of-label Whole (Ok (Stopped labels bytes why)) h =
    ⊎_elim (λ (e : number why ≡ 7). (omega arith, omega arith)) (λ (e : number why ≡ 10). (omega arith, omega arith)) h
item-of-label Whole (Ok (Done labels bytes)) h = tt

-- ---- whatever is lent

module _ (lent : Lent) (first count : ℕ) (out : List ℕ) where
  views-apart : SeriesApart (WholeFor lent) OfLabel (views_run (source_of lent) first count out).answer
  views-apart =
      run-stops (WholeFor lent) 1_048_575 _ (views-say (WholeFor lent) (source_of lent) (lent-apt lent) first count out)

  views-listed-apart : SeriesApart (WholeFor lent) OfItem (views_list (source_of lent) first count out).answer
  views-listed-apart =
      item-stops (WholeFor lent) 1_048_575 _
      (list-says OfItem (inl refl) (WholeFor lent) (source_of lent) (lent-apt lent) (λ n taken k a e. inr refl) first count out)

  module _ (code : List ℕ) where
    code-apart : SeriesApart (WholeFor lent) OfLabel (code_run (source_of lent) code first count out).answer
    code-apart =
        run-stops (WholeFor lent) 1_048_575 _
        (codes-say (WholeFor lent) (source_of lent) (lent-apt lent) first count out (code-whole lent) code)

    code-listed-apart : SeriesApart (WholeFor lent) OfItem (code_list (source_of lent) code first count out).answer
    code-listed-apart =
        item-stops (WholeFor lent) 1_048_575 _
        (code-list-says OfItem (inl refl) (WholeFor lent) (source_of lent) (lent-apt lent) (code-whole lent) code
        (λ n taken k a e. inr refl) first count out)

module _ (pack : List ℕ) (first count : ℕ) (out : List ℕ) where
  pack-apart : SeriesApart OfWhole OfLabel (pack_run pack first count out).answer
  pack-apart = run-stops OfWhole (point_count pack) _ (packs-say pack first count out)

  pack-listed-apart : SeriesApart OfWhole OfItem (pack_list pack first count out).answer
  pack-listed-apart =
      item-stops OfWhole (point_count pack) _
      (pack-list-says OfItem (inl refl) pack (λ n taken k low high. inr refl) first count out)

-- what refuses the whole, among others
wider : (Whole Other Stop : Reason → Type 0) → ((why : Reason) → Whole why → Other why) → (s : Series)
    → SeriesApart Whole Stop s
    → SeriesApart Other Stop s
wider Whole Other Stop more (Err r) h = more r.reason h
wider Whole Other Stop more (Ok (Stopped labels bytes why)) h = h
wider Whole Other Stop more (Ok (Done labels bytes)) h = h

-- where no book is lent, 28 refuses nothing; with it, nothing is left out
no-book : (lent : Lent) → (IsBook lent → ⊥) → (why : Reason) → WholeFor lent why → OfWhole why
no-book (pair table points) none why h = h
no-book (set it) none why h = h
no-book (a_book book table) none why h = absurd (none book_lent)

with-book : (lent : Lent) (why : Reason) → WholeFor lent why → OfBook why
with-book (pair table points) why h = inl h
with-book (set it) why h = inl h
with-book (a_book book table) why h = h

-- ---- runs and listings

-- of what may refuse the whole where no book is lent, and where one is for this call
record Admits (Whole : Reason → Type 0) (call : Call) : Type 0 where
  plain : (why : Reason) → OfWhole why → Whole why
  lent : (it : Lent) → (IsBook it → ForBook call) → (why : Reason) → WholeFor it why → Whole why

no-book-admits : (call : Call) → (ForBook call → ⊥) → Admits OfWhole call
no-book-admits call none =
    record { plain = λ why h. h; lent = λ it book why h. no-book it (λ b. none (book b)) why h }

book-admits : (call : Call) → Admits OfBook call
book-admits call = record { plain = λ why h. inl h; lent = λ it book why h. with-book it why h }

module _ (Whole : Reason → Type 0) where
  list-stops-by : (call : Call) → Admits Whole call → IsList call → (out : List ℕ)
      → SayingApart Whole OfItem (outcome_of call out).answer
  list-stops-by call a (views_listed {lent} {first} {count}) out =
      wider (WholeFor lent) Whole OfItem (a.lent lent (λ b. book_list b)) _ (views-listed-apart lent first count out)
  list-stops-by call a (code_listed {lent} {code} {first} {count}) out =
      wider (WholeFor lent) Whole OfItem (a.lent lent (λ b. book_code_list b)) _ (code-listed-apart lent first count out code)
  list-stops-by call a (pack_listed {pack} {first} {count}) out =
      wider OfWhole Whole OfItem a.plain _ (pack-listed-apart pack first count out)

  apart-by : (call : Call) → Admits Whole call → (ForCsv call → ⊥) → (out : List ℕ)
      → SayingApart Whole OfLabel (outcome_of call out).answer
  apart-by (of_table table) a other out = tt
  apart-by (of_points points) a other out = tt
  apart-by (of_views points) a other out = tt
  apart-by (of_letter points view) a other out = tt
  apart-by (of_live points code) a other out = tt
  apart-by (of_codes points) a other out = tt
  apart-by (of_main s) a other out = tt
  apart-by (of_main_live addresses code) a other out = tt
  apart-by (of_main_codes addresses) a other out = tt
  apart-by (of_label lent view) a other out = tt
  apart-by (of_code_label lent code k) a other out = tt
  apart-by (of_labels lent first count) a other out =
      wider (WholeFor lent) Whole OfLabel (a.lent lent (λ b. book_run b)) _ (views-apart lent first count out)
  apart-by (of_code_labels lent code first count) a other out =
      wider (WholeFor lent) Whole OfLabel (a.lent lent (λ b. book_code_run b)) _ (code-apart lent first count out code)
  apart-by (of_list lent first count) a other out =
      item-of-label Whole _ (list-stops-by (of_list lent first count) a views_listed out)
  apart-by (of_code_list lent code first count) a other out =
      item-of-label Whole _ (list-stops-by (of_code_list lent code first count) a code_listed out)
  apart-by (of_build lent code) a other out = tt
  apart-by (of_pack pack) a other out = tt
  apart-by (of_pack_label pack k) a other out = tt
  apart-by (of_pack_labels pack first count) a other out = wider OfWhole Whole OfLabel a.plain _ (pack-apart pack first count out)
  apart-by (of_pack_list pack first count) a other out =
      item-of-label Whole _ (list-stops-by (of_pack_list pack first count) a pack_listed out)
  apart-by (of_pack_suffix pack k) a other out = tt
  apart-by (of_sector pack digit) a other out = tt
  apart-by of_unspace_table a other out = tt
  apart-by of_unspace_points a other out = tt
  apart-by (of_csv_row files view) a other out = tt
  apart-by (of_csv_rows files first count) a other out = absurd (other rows_written)
  apart-by (of_csv csv) a other out = tt
  apart-by (of_csv_label csv row) a other out = tt
  apart-by (of_csv_labels csv first count) a other out = absurd (other rows_printed)
  apart-by (of_csv_list csv first count) a other out = absurd (other rows_listed)
  apart-by (of_book book) a other out = tt
  apart-by (of_book_live book code) a other out = tt
  apart-by (of_book_event points view) a other out = tt
  apart-by of_book_tidy a other out = tt

-- by the names of the page of demands
as-stops : (s : Saying) → SayingApart OfWhole OfItem s → ListStops s
as-stops (one answer) h = tt
as-stops (run series) h = h

as-apart : (s : Saying) → SayingApart OfWhole OfLabel s → Apart s
as-apart (one answer) h = tt
as-apart (run series) h = h

pub list-stops : (call : Call) → IsList call → (ForBook call → ⊥) → (out : List ℕ) → ListStops (outcome_of call out).answer
list-stops call listed plain out = as-stops _ (list-stops-by OfWhole call (no-book-admits call plain) listed out)

pub told-apart : (call : Call) → (ForCsv call → ⊥) → (ForBook call → ⊥) → (out : List ℕ)
    → Apart (outcome_of call out).answer
told-apart call other plain out = as-apart _ (apart-by OfWhole call (no-book-admits call plain) other out)

-- whatever is lent
pub book-list-stops : (call : Call) → IsList call → (out : List ℕ) → BookListStops (outcome_of call out).answer
book-list-stops call = list-stops-by OfBook call (book-admits call)

pub book-apart : (call : Call) → (ForCsv call → ⊥) → (out : List ℕ) → BookApart (outcome_of call out).answer
book-apart call = apart-by OfBook call (book-admits call)

-- ---- the runs and the listing for CSV PAF

-- no book is lent
files-whole : (files : Files) (why : Reason) → WholeFor (lent_of files) why → OfWhole why
files-whole (pair_files table points) why h = h
files-whole (set_files s) why h = h

pub csv-apart : (call : Call) (r : ForCsv call) (out : List ℕ) → CsvApart r (outcome_of call out).answer
csv-apart call (rows_written {files} {first} {count}) out =
    let lent = lent_of files in
    series-apart OfWhole OfRow (WholeBy (WholeFor lent)) (StopOf OfRow) (λ file why h. files-whole files why h.apart)
    (λ why h. h.apart) 1_048_575
    (view_rows (source_of lent) first count out).answer
    (rows-say (WholeFor lent) (source_of lent) (lent-apt lent) (lent_rows files) first count out)
csv-apart call (rows_printed {csv} {first} {count}) out =
    series-apart OfCsv OfCsvLabel (λ file why. OfCsv why) (StopOf OfCsvLabel) (λ file why h. h) (λ why h. h.apart) (length (rows_of csv))
    (csv_labels csv first count out).answer
    (csv-labels-say (λ file why. OfCsv why) csv (csv-whole csv) first count out)
csv-apart call (rows_listed {csv} {first} {count}) out =
    series-apart OfCsv OfItem (λ file why. OfCsv why) OfItem (λ file why h. h) (λ why h. h) (length (rows_of csv))
    (csv_list csv first count out).answer
    (csv-list-says (λ file why. OfCsv why) OfItem (inl refl) csv (csv-whole csv) (λ n taken k row e. inr refl) first count out)
