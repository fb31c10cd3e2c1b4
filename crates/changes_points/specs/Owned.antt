-- A record that follows its owner.
-- Assumes nothing.
use Rattle.std.specs.Prelude.{ℕ, ◌≡◌, true, List, [], ◌∷◌, get_or}
use Rattle.field.specs.Test.{elem}
use Rattle.field.specs.Text.{part}
use Rattle.file_record.specs.Names.Point
use Rattle.file_fault.specs.Point.{point_fault}

-- "each has its owner's first 41 bytes", and the owner has no fault
pub record Owned (owner rec : List ℕ) : Type 0 where
  pub front : part rec 0 Point.type ≡ part owner 0 Point.type
  pub type : elem (get_or rec Point.type 0) (50 ∷ 51 ∷ []) ≡ true
  pub good : point_fault owner ≡ 0
