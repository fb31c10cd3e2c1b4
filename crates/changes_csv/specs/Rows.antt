-- Rows of CSV PAF of a pair of files, by the places of its views.
-- Assumes nothing.
use Rattle.std.specs.Prelude.{ℕ, List, []}
use Rattle.refusal.specs.Outcome.{Outcome}
use Rattle.run.specs.Series.{Asking}
use Rattle.changes_views.specs.Views.{wanted_at}
use Rattle.changes_source.specs.Rows.{table_lookup}
use Rattle.changes_source.specs.Addresses.{address_at}
use Rattle.csv_write.specs.Placed.{placed_row}
use Rattle.refusal.specs.Answer.{Answer}

-- the row of the view at a place; its number is not written
abbrev pub place_row : (table points : List ℕ) → (place : ℕ) → List ℕ → Outcome Answer
place_row table points place out = placed_row (table_lookup table) (address_at points 0 place) place out

-- a row by its view's number
abbrev pub rows_asked : (table points : List ℕ) → Asking
rows_asked table points = λ k out. place_row table points (wanted_at [] points k) out
