-- The delivery points of a book that are packed, by where their records start.
-- Assumes nothing.
use Rattle.std.specs.Prelude.{ℕ, ◌≤◌, List, [], ◌∷◌, length}
use Rattle.file.specs.Formats.{table_format}
use Rattle.file.specs.Accepted.{Accepted}
use Rattle.changes_source.specs.Rows.{table_shelf}
use Rattle.shelf.specs.Search.{Filled}
use Rattle.build.specs.Plan.{Packed}
use Rattle.book.specs.Layout.{slots}
use Rattle.book_source.specs.Starts.{place_before, delivery_from, AllInside}

-- "a place standing for the view number"
abbrev pub packed_from : (book : List ℕ) → ℕ → Packed
packed_from book at = record { view = place_before book at; point = delivery_from book at }

abbrev pub packed_all : (book : List ℕ) → List ℕ → List Packed
packed_all book [] = []
packed_all book (at ∷ more) = packed_from book at ∷ packed_all book more

-- two records stand at each start, and there are no more than slots
pub record Chosen (book chosen : List ℕ) : Type 0 where
  pub inside : AllInside book chosen
  pub few : length chosen ≤ slots

-- what the walks rest on: an accepted table file, the numbers of its records, and the chosen
pub record Known (table refs book chosen : List ℕ) : Type 0 where
  pub of_table : Accepted table_format table
  pub filled : Filled table_shelf table refs
  pub of_chosen : Chosen book chosen
