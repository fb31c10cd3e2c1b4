-- What is shown of a row by the place at which it begins: its label, or its item in a listing.
-- Assumes nothing.
use Rattle.std.specs.Prelude.{ℕ, ◌≤◌, ◌<◌, Bool, true, false, List, [], ◌∷◌, length, drop}
use Rattle.std.proofs.Math.Option.{Option, none, some}
use Rattle.refusal.specs.Outcome.{Outcome}
use Rattle.source.specs.Resolve.{Resolved}
use Rattle.item.specs.Item.{item_outcome}
use Rattle.run.specs.Series.{Asking}
use Rattle.csv_paf.specs.File.{rows_of}
use Rattle.csv_paf.specs.Ask.{kth_of, resolved_of, label_or, row_line, csv_labels, csv_list}
use Rattle.csv_spans.specs.Row.{GoodRow}
use Rattle.refusal.specs.Answer.{Answer}
use Rattle.run.specs.Series.{Series}

-- the row that begins at a place, where bytes are left
abbrev pub row_from : List ℕ → Option (List ℕ)
row_from [] = none
row_from (x ∷ xs) = some (x ∷ xs)

abbrev pub resolved_at : List ℕ → (place : ℕ) → Option Resolved
resolved_at csv place = resolved_of (row_from (drop place csv))

-- of the row of a number
abbrev pub shown_of : (listed : Bool) → (row : ℕ) → Option Resolved → List ℕ → Outcome Answer
shown_of true row r out = item_outcome (row_line row) r out
shown_of false row r out = label_or r out

abbrev pub shown_row : (listed : Bool) → List ℕ → Asking
shown_row listed csv = λ row out. shown_of listed row (resolved_of (kth_of (rows_of csv) row)) out

-- a listing, or a run of labels
abbrev pub rows_shown : (listed : Bool) → List ℕ → (first count : ℕ) → List ℕ → Outcome Series
rows_shown true csv first count out = csv_list csv first count out
rows_shown false csv first count out = csv_labels csv first count out

-- what a caller shows of a place: a row that begins there is a good one
pub record RowPlace (csv : List ℕ) (place : ℕ) : Type 0 where
  pub within : place ≤ length csv
  pub good : place < length csv → GoodRow csv place
