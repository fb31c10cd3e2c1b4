-- What is known of a pack that was opened when its points are counted.
-- Assumes nothing.
use Rattle.std.specs.Prelude.{ℕ, ◌≡◌, true, List}
use Rattle.pack.specs.Opening.{point_count, all_counts_good}
use Rattle.pack_points.specs.Ready.{Sized}

-- its points end at the trailer, whose counts are good; and there are so many
pub record Opening (pack : List ℕ) (count : ℕ) : Type 0 where
  pub sized : Sized pack
  pub counts : all_counts_good pack ≡ true
  pub counted : count ≡ point_count pack
