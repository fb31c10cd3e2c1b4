-- What a delivery point of a set is printed from: the texts of its rows, each in the file of its kind, its own in the address
-- file, and the organisation. Over any bytes.
-- Assumes nothing.
use Rattle.std.specs.Prelude.{ℕ, ◌+◌, ◌≤◌, List, length}
use Rattle.source.specs.Address.{Elements}
use Rattle.source.specs.declared.DeliveryPoint.{DeliveryPoint}
use Rattle.source.specs.Delivery.{asked_of}
use Rattle.source_spans.specs.Spans.{row_text, elements_from}
use Rattle.mainfile.specs.Set.{Set}
use Rattle.mainfile.specs.Rows.{shelf_of, file_of}
use Rattle.mainfile_source.specs.Rows.{rows_by, kind_found}
use Rattle.mainfile_source.specs.Delivery.{delivery_at}

-- a text of a row of a kind, in the file of that kind
abbrev pub kind_text : Set → (row kind which : ℕ) → List ℕ
kind_text s row kind which = row_text (shelf_of kind) (file_of s kind) row kind which

abbrev pub elements_at : Set → DeliveryPoint → (rows : List ℕ) → Elements
elements_at s p rows = elements_from (kind_text s) s.addresses s.organisations p rows

-- what is known of an address record, and the rows that the search finds for its keys
abbrev pub point_at : Set → ℕ → DeliveryPoint
point_at s i = delivery_at s.addresses s.organisations i

abbrev pub rows_at : Set → ℕ → List ℕ
rows_at s i = rows_by (kind_found s) (asked_of (point_at s i))

-- the texts of a delivery point lie within the two slices that hold them
pub record Inside (own others : List ℕ) (p : DeliveryPoint) : Type 0 where
  pub postcode : p.postcode + 7 ≤ length own
  pub suffix : p.suffix + 2 ≤ length own
  pub box : p.po_box + 6 ≤ length own
  pub organisation : p.organisation + 120 ≤ length others
