-- Archived files (document 02, No. 9): a rewritten file is accepted exactly when it was before, with the same labels.
-- Assumes nothing.
use Rattle.std.specs.Prelude.{◌≡◌, List, ℕ, ◌≤◌}
use Rattle.file_record.specs.Names.Table
use Rattle.file_record.specs.Names.Point
use Rattle.unspace_file.specs.Unspaced.{unspaced_count}
use Rattle.call.specs.Call.{of_unspace_table, of_unspace_points, comes_to}
use Rattle.unspace_sound.specs.Sound.{new_table, new_points, Sound}

-- what the two calls leave in lent memory are the rewritten files, and of these all that the request asks holds, whatever
-- the bytes
pub record Archived (table points : List ℕ) : Type 0 where
  pub table_left : (bytes : ℕ) → (comes_to of_unspace_table table bytes).memory ≡ new_table table
  pub points_left : (bytes : ℕ) → (comes_to of_unspace_points points bytes).memory ≡ new_points points
  pub kept : Sound table points
  -- the number that they tell is how many identifiers were spaces: "0, 1 or 2"
  pub table_told : (bytes : ℕ)
      → (comes_to of_unspace_table table bytes).number ≡ unspaced_count Table.width Table.identifier table
  pub points_told : (bytes : ℕ)
      → (comes_to of_unspace_points points bytes).number ≡ unspaced_count Point.width Point.identifier points
  pub table_few : unspaced_count Table.width Table.identifier table ≤ 2
  pub points_few : unspaced_count Point.width Point.identifier points ≤ 2
