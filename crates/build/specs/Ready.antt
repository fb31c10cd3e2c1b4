-- What the caller of the writer knows: the numbers that it hands in, and that there is room.
-- Assumes nothing.
use Rattle.std.specs.Prelude.{ℕ, ◌+◌, ◌≤◌, ◌≡◌, List, length}
use Rattle.shelf.specs.Stock.{Stock}
use Rattle.build.specs.Plan.{Packed, organisation_count}
use Rattle.build.specs.Rows.{all_count}
use Rattle.build.specs.Bytes.{pack_in}

pub record Ready (st : Stock) (own others starts : List ℕ) (ds : List Packed) (code : List ℕ) (rows count : ℕ)
    (out : List ℕ) : Type 0 where
  pub of_rows : rows ≡ all_count st starts + organisation_count ds
  pub of_points : count ≡ length ds
  pub of_room : length (pack_in st own others starts ds code) ≤ length out
