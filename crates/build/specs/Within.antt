-- A delivery point whose fields that are packed as they stand lie within the slice that holds them.
-- Assumes nothing.
use Rattle.std.specs.Prelude.{ℕ, ◌+◌, ◌≤◌, List, length}
use Rattle.source.specs.declared.DeliveryPoint.{DeliveryPoint}

-- "postcode 7", the suffix behind it, "PO box 6"
pub record FieldsWithin (own : List ℕ) (p : DeliveryPoint) : Type 0 where
  pub postcode : p.postcode + 7 ≤ length own
  pub suffix : p.suffix + 2 ≤ length own
  pub box : p.po_box + 6 ≤ length own
