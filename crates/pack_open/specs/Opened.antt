-- When a pack is accepted: "Pack check. Step 1 .. Step 2 .. Step 3", and step 4 of No. 7.
-- Assumes nothing.
use Rattle.std.specs.Prelude.{ℕ, ◌≡◌, true, List}
use Rattle.pack.specs.Opening.{point_count, trailer_good, all_rows_good, all_points_good, all_counts_good}

-- all four steps passed, and the answer is the number of points
pub record Opened (pack : List ℕ) (n : ℕ) : Type 0 where
  pub trailer : trailer_good pack ≡ true
  pub rows : all_rows_good pack ≡ true
  pub points : all_points_good pack ≡ true
  pub counts : all_counts_good pack ≡ true
  pub counted : n ≡ point_count pack
