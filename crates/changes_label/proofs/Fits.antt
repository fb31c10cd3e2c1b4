-- None of the texts that a view of a pair of files is printed from is longer than its field, where the table file is
-- accepted. The point file may be any bytes.
-- Assumes nothing.
use Prim.Native.Nat.{ℕ}
use mathlib.Core.List.{List, [], ◌∷◌}
use Rattle.file.specs.Formats.{table_format}
use Rattle.file.specs.Accepted.{Accepted}
use Rattle.changes_views.specs.Views.{wanted_in, view_number}
use Rattle.source.specs.Address.{Address}
use Rattle.source.specs.Resolve.{elements_of}
use Rattle.source.specs.Same.{AllOf}
use Rattle.label.specs.Widths.{Fits}
use Rattle.changes_source.specs.Rows.{table_lookup}
use Rattle.changes_source.specs.Addresses.{addresses_in}
use Rattle.changes_pair.specs.Live.{views_at, WantedPlaces}
use Rattle.changes_pair.proofs.Live.{all-views, all_wanted}
use Rattle.changes_meaning.proofs.Meant.{address-fits}

module _ (table points : List ℕ) (t : Accepted table_format table) where
  abbrev AddressFits : Address → Type 0
  AddressFits a = Fits (elements_of (table_lookup table) a)

  places-fit : (places : List ℕ) → WantedPlaces [] points places → AllOf AddressFits (views_at points places)
  places-fit [] wanted = tt
  places-fit (place ∷ places) wanted = (
    address-fits table points t place wanted.0.high (view_number points place),
    places-fit places wanted.1,
  )

  pub views-fit : AllOf (λ a. Fits (elements_of (table_lookup table) a)) (addresses_in points)
  views-fit = rw (all-views points) (places-fit (wanted_in [] points) (all_wanted [] points))
