-- The views of a point file by their places in it.
-- Assumes nothing.
use Rattle.std.specs.Prelude.{ℕ, ◌≤◌, ◌<◌, ◌≡◌, true, List, [], ◌∷◌}
use Rattle.file_record.specs.Parts.{record_at}
use Rattle.file_record.specs.Names.Point
use Rattle.changes_views.specs.Views.{last_of, wanted, view_number}
use Rattle.source.specs.Address.{Address}
use Rattle.changes_source.specs.Addresses.{address_at, addresses_in, kept}
use Rattle.ask.specs.Source.{in_code}

-- "the live views of that outward code in file order"
abbrev pub live_in : (points code : List ℕ) → List Address
live_in points code = in_code code (kept (addresses_in points))

-- the view at a place, with its number
abbrev pub view_at : List ℕ → ℕ → Address
view_at points place = address_at points (view_number points place) place

abbrev pub views_at : List ℕ → List ℕ → List Address
views_at points [] = []
views_at points (place ∷ places) = view_at points place ∷ views_at points places

-- a place between header and trailer at which a wanted record stands
pub record WantedPlace (code points : List ℕ) (place : ℕ) : Type 0 where
  pub low : 1 ≤ place
  pub high : place < last_of points
  pub is_wanted : wanted code (record_at Point.width points place) ≡ true

abbrev pub WantedPlaces : List ℕ → List ℕ → List ℕ → Type 0
WantedPlaces code points [] = Unit {0}
WantedPlaces code points (place ∷ places) = WantedPlace code points place × WantedPlaces code points places
