-- The views of a code, as they are packed.
-- Assumes nothing.
use Rattle.std.specs.Prelude.{ℕ, ◌≡◌, List, [], ◌∷◌}
use Rattle.file.specs.Formats.{table_format, point_format}
use Rattle.file.specs.Accepted.{Accepted}
use Rattle.changes_views.specs.Views.{wanted_in, view_number}
use Rattle.changes_source.specs.Rows.{table_shelf, table_stock}
use Rattle.changes_source.specs.Delivery.{delivery_at}
use Rattle.shelf.specs.Search.{Filled}
use Rattle.build.specs.Plan.{Packed, first_refused, mark_all}
use Rattle.refusal.specs.Verdict.{Verdict, fine}

-- the view at a place, with its number
abbrev pub packed_at : List ℕ → ℕ → Packed
packed_at points place = record { view = view_number points place; point = delivery_at points place }

abbrev pub packed_all : List ℕ → List ℕ → List Packed
packed_all points [] = []
packed_all points (place ∷ places) = packed_at points place ∷ packed_all points places

-- "the live views of that outward code in file order"
abbrev pub packed_in : (points code : List ℕ) → List Packed
packed_in points code = packed_all points (wanted_in code points)

-- what the walks rest on: accepted files, and the numbers of the table's records
pub record Known (table refs points : List ℕ) : Type 0 where
  pub of_table : Accepted table_format table
  pub of_points : Accepted point_format points
  pub filled : Filled table_shelf table refs

-- what marking says, and the marks that it leaves: all that the views refer to, where none is refused
pub record MarksViews (table points code marks : List ℕ) (v : Verdict) (marked : List ℕ) : Type 0 where
  pub said : v ≡ first_refused (table_stock table) (packed_in points code)
  pub marks_all : v ≡ fine → marked ≡ mark_all (table_stock table) (packed_in points code) marks
