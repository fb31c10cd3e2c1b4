-- Demand 2 for CSV PAF (document 02, No. 8): what writing a row comes to, case by case, over any source; when a file of rows
-- is accepted, and what the label of a row comes to; what an item of a listing holds; what stops a run; and the way back.
-- Assumes nothing.
use Rattle.std.specs.Prelude.{ℕ, suc, ◌≤◌, ◌<◌, ◌≡◌, true, false, List, [], ◌∷◌, ◌++◌, ◌⊎◌, length}
use Rattle.std.proofs.Math.Option.{none, some}
use Rattle.field.specs.Test.{every}
use Rattle.field.specs.Text.{text_byte}
use Rattle.refusal.specs.Refusal.{number}
use Rattle.refusal.specs.Packed.{FitsRefusal}
use Rattle.refusal.specs.declared.Reason.{Reason}
use Rattle.refusal.specs.declared.Reason.TheVariants.{NoSuchNumber, Combination, MissingKey, BadRow, Uncarried}
use Rattle.refusal.specs.Outcome.{Outcome, said}
use Rattle.source.specs.Address.{Lookup, Address, Elements}
use Rattle.source.specs.Resolve.{forbidden, missing, elements_of}
use Rattle.label.specs.Lines.{lines_of}
use Rattle.label.specs.Label.{label_of}
use Rattle.ask.specs.Source.{Source}
use Rattle.ask.specs.Labels.{kth}
use Rattle.csv_paf.specs.Row.{row_of, carried, view_row}
use Rattle.csv_paf.specs.File.{fields_of, rows_of, row_fault, all_fit, csv_judged}
use Rattle.csv_paf.specs.Ask.{row_elements, forbidden_in, kth_of, csv_label, row_line}
use Rattle.csv_back.specs.Back.{ViewBack, RunBack}
use Rattle.call.specs.Call.{Files, Call, of_csv_rows, of_csv_labels, of_csv_list, Saying, one, run}
use Rattle.demands.specs.Two.{written, too_short, Printed, refused_as, Bounded, NoneSmall}
use Rattle.demands.specs.Apart.{OfLabel, OfWhole, OfItem, SeriesApart}
use Rattle.std.specs.Prelude.{Ok}
use Rattle.refusal.specs.Answer.{Answer, refusal}

-- ---- a row is written

abbrev pub row_for : Lookup → Address → List ℕ
row_for look a = row_of a (elements_of look a)

-- "Writing: the label's own, 15, then 10"
pub data RowAsked (s : Source) (view : ℕ) (out : List ℕ) : Type 0 where
  files_refused : {file : ℕ} {why : Reason} → s.judged ≡ refusal file why
      → view_row s view out ≡ said (refusal file why) out
      → RowAsked s view out
  no_number : {n : ℕ} → s.judged ≡ Ok n → kth s.views view ≡ none
      → view_row s view out ≡ said (refusal 0 NoSuchNumber) out
      → RowAsked s view out
  forbidden_mix : {n : ℕ} → s.judged ≡ Ok n → (a : Address) → kth s.views view ≡ some a → (forbidden a ≡ 0 → ⊥)
      → view_row s view out ≡ said (refusal 0 (Combination (forbidden a) 0)) out
      → RowAsked s view out
  key_missing : {n : ℕ} → s.judged ≡ Ok n → (a : Address) → kth s.views view ≡ some a → forbidden a ≡ 0
      → (missing s.look a ≡ 0 → ⊥)
      → view_row s view out ≡ said (refusal 0 (MissingKey (missing s.look a) 0)) out
      → RowAsked s view out
  not_carried : {n : ℕ} → s.judged ≡ Ok n → (a : Address) → kth s.views view ≡ some a → Printed s.look a
      → carried (elements_of s.look a) ≡ false
      → view_row s view out ≡ said (refusal 0 Uncarried) out
      → RowAsked s view out
  no_room : {n : ℕ} → s.judged ≡ Ok n → (a : Address) → kth s.views view ≡ some a → Printed s.look a
      → carried (elements_of s.look a) ≡ true
      → length out < length (row_for s.look a)
      → view_row s view out ≡ too_short (row_for s.look a) out
      → RowAsked s view out
  row_written : {n : ℕ} → s.judged ≡ Ok n → (a : Address) → kth s.views view ≡ some a → Printed s.look a
      → carried (elements_of s.look a) ≡ true
      → length (row_for s.look a) ≤ length out
      → view_row s view out ≡ written (row_for s.look a) out
      → RowAsked s view out

-- each row of whatever is lent that is not refused with 15
abbrev pub EachRow : (List ℕ → Type 0) → Source → Type 0
EachRow P s =
    (n view : ℕ) (a : Address) → s.judged ≡ Ok n → kth s.views view ≡ some a → Printed s.look a
    → carried (elements_of s.look a) ≡ true
    → P (row_for s.look a)

-- "At most 499 bytes"
abbrev pub RowsBounded : Source → Type 0
RowsBounded = EachRow (λ row. length row ≤ 499)

-- "Text has bytes 32 to 126 without small letters": so has a row, and CR LF behind them
pub record TextRow (row : List ℕ) : Type 0 where
  pub text : List ℕ
  pub is : row ≡ text ++ (13 ∷ 10 ∷ [])
  pub bytes : every text_byte text ≡ true

abbrev pub RowsText : Source → Type 0
RowsText = EachRow TextRow

-- ---- a file is read

-- "the first malformed field of the first such row", rows counted on from n
pub data FirstBad : (n : ℕ) → List (List ℕ) → (row field : ℕ) → Type 0 where
  here : {n : ℕ} {row : List ℕ} {rows : List (List ℕ)} → (row_fault row ≡ 0 → ⊥) → FirstBad n (row ∷ rows) n (row_fault row)
  later : {n m field : ℕ} {row : List ℕ} {rows : List (List ℕ)} → row_fault row ≡ 0 → FirstBad (suc n) rows m field
      → FirstBad n (row ∷ rows) m field

abbrev pub AllFormed : List (List ℕ) → Type 0
AllFormed [] = Unit {0}
AllFormed (row ∷ rows) = (row_fault row ≡ 0) × AllFormed rows

-- "14 of any row first, then 15 of any row"
pub data CsvAsked (csv : List ℕ) : Type 0 where
  row_malformed : {row field : ℕ} → FirstBad 1 (rows_of csv) row field
      → csv_judged csv ≡ refusal 0 (BadRow row field)
      → CsvAsked csv
  not_carried : AllFormed (rows_of csv) → all_fit (rows_of csv) ≡ false
      → csv_judged csv ≡ refusal 0 Uncarried
      → CsvAsked csv
  accepted : AllFormed (rows_of csv) → all_fit (rows_of csv) ≡ true
      → csv_judged csv ≡ Ok (length (rows_of csv))
      → CsvAsked csv

-- what the label of a row is printed from
abbrev pub elements_for : (row : List ℕ) → Elements
elements_for row = row_elements (fields_of row)

-- "reading: 14, 15, 8, 10", with 7 before 8; "rules 1 and 2 by which fields are filled; rule 3 cannot occur"
pub data CsvLabelAsked (csv : List ℕ) (row : ℕ) (out : List ℕ) : Type 0 where
  file_refused : {file : ℕ} {why : Reason} → csv_judged csv ≡ refusal file why
      → csv_label csv row out ≡ said (refusal file why) out
      → CsvLabelAsked csv row out
  no_number : {n : ℕ} → csv_judged csv ≡ Ok n → kth_of (rows_of csv) row ≡ none
      → csv_label csv row out ≡ said (refusal 0 NoSuchNumber) out
      → CsvLabelAsked csv row out
  forbidden_mix : {n : ℕ} → csv_judged csv ≡ Ok n → (bytes : List ℕ) → kth_of (rows_of csv) row ≡ some bytes
      → (forbidden_in (elements_for bytes) ≡ 1) ⊎ (forbidden_in (elements_for bytes) ≡ 2)
      → csv_label csv row out ≡ said (refusal 0 (Combination (forbidden_in (elements_for bytes)) 0)) out
      → CsvLabelAsked csv row out
  no_room : {n : ℕ} → csv_judged csv ≡ Ok n → (bytes : List ℕ) → kth_of (rows_of csv) row ≡ some bytes
      → forbidden_in (elements_for bytes) ≡ 0
      → length out < length (label_of (elements_for bytes))
      → csv_label csv row out ≡ too_short (label_of (elements_for bytes)) out
      → CsvLabelAsked csv row out
  printed : {n : ℕ} → csv_judged csv ≡ Ok n → (bytes : List ℕ) → kth_of (rows_of csv) row ≡ some bytes
      → forbidden_in (elements_for bytes) ≡ 0
      → length (label_of (elements_for bytes)) ≤ length out
      → csv_label csv row out ≡ written (label_of (elements_for bytes)) out
      → CsvLabelAsked csv row out

-- no label of a row of an accepted file is longer than one of document 01
abbrev pub CsvBounded : (csv : List ℕ) → Type 0
CsvBounded csv =
    (n row : ℕ) (bytes : List ℕ) → csv_judged csv ≡ Ok n → kth_of (rows_of csv) row ≡ some bytes
    → Bounded (elements_for bytes)

-- no line of such a label begins with a small letter
abbrev pub RowsCapital : (csv : List ℕ) → Type 0
RowsCapital csv =
    (n row : ℕ) (bytes : List ℕ) → csv_judged csv ≡ Ok n → kth_of (rows_of csv) row ≡ some bytes
    → NoneSmall (lines_of (elements_for bytes))

-- ---- an item of a listing

-- what stands under the line of a row: "the label or the line of its refusal", 8 with its rule
pub data UnderRow (bytes text : List ℕ) : Type 0 where
  a_label : forbidden_in (elements_for bytes) ≡ 0 → text ≡ label_of (elements_for bytes) → UnderRow bytes text
  a_rule : (forbidden_in (elements_for bytes) ≡ 1) ⊎ (forbidden_in (elements_for bytes) ≡ 2)
      → text ≡ refused_as 8 (forbidden_in (elements_for bytes))
      → UnderRow bytes text

-- the item of a row of an accepted file: "the line `row N`, then the label or the line of its refusal"
pub data RowListed (csv : List ℕ) (row : ℕ) (out : List ℕ) (o : Outcome Answer) : Type 0 where
  no_number : kth_of (rows_of csv) row ≡ none
      → o ≡ said (refusal 0 NoSuchNumber) out
      → RowListed csv row out o
  no_room : (bytes text : List ℕ) → kth_of (rows_of csv) row ≡ some bytes → UnderRow bytes text
      → length out < length (row_line row ++ text)
      → o ≡ too_short (row_line row ++ text) out
      → RowListed csv row out o
  listed : (bytes text : List ℕ) → kth_of (rows_of csv) row ≡ some bytes → UnderRow bytes text
      → length (row_line row ++ text) ≤ length out
      → o ≡ written (row_line row ++ text) out
      → RowListed csv row out o

-- ---- runs

-- of a run of rows "15 stops it too"
abbrev pub OfRow : Reason → Type 0
OfRow why = OfLabel why ⊎ (number why ≡ 15)

-- of a run of labels of rows: no key is missing
abbrev pub OfCsvLabel : Reason → Type 0
OfCsvLabel why = (number why ≡ 7) ⊎ ((number why ≡ 8) ⊎ (number why ≡ 10))

-- what refuses a whole file of rows: 14 and 15
abbrev pub OfCsv : Reason → Type 0
OfCsv why = (14 ≤ number why) × (number why ≤ 15)

pub record CsvSays (file : ℕ) (why : Reason) : Type 0 where
  pub apart : OfCsv why
  pub fits : FitsRefusal file why

-- so each run tells by its number whether the whole was refused
abbrev pub RunApart : (Whole Stop : Reason → Type 0) → Saying → Type 0
RunApart Whole Stop (one answer) = ⊥
RunApart Whole Stop (run series) = SeriesApart Whole Stop series

-- the runs and the listing for CSV PAF
pub data ForCsv : Call → Type 0 where
  rows_written : {files : Files} {first count : ℕ} → ForCsv (of_csv_rows files first count)
  rows_printed : {csv : List ℕ} {first count : ℕ} → ForCsv (of_csv_labels csv first count)
  rows_listed : {csv : List ℕ} {first count : ℕ} → ForCsv (of_csv_list csv first count)

abbrev pub CsvApart : {call : Call} → ForCsv call → Saying → Type 0
CsvApart rows_written = RunApart OfWhole OfRow
CsvApart rows_printed = RunApart OfCsv OfCsvLabel
CsvApart rows_listed = RunApart OfCsv OfItem

-- two of one kind
abbrev pub Alike : {call other : Call} → ForCsv call → ForCsv other → Type 0
Alike rows_written rows_written = Unit {0}
Alike rows_written rows_printed = ⊥
Alike rows_written rows_listed = ⊥
Alike rows_printed rows_written = ⊥
Alike rows_printed rows_printed = Unit {0}
Alike rows_printed rows_listed = ⊥
Alike rows_listed rows_written = ⊥
Alike rows_listed rows_printed = ⊥
Alike rows_listed rows_listed = Unit {0}

-- ---- the way back

-- "A written row that is read back prints the same label as its view, except where that needs what the row has no field
-- for"; "The same for a run of rows read back as a file"
pub record WayBack (s : Source) : Type 0 where
  pub row : ViewBack s
  pub rows : RunBack s
