-- Walks over good rows: how it is known whether an offset is the start of a row without going from the first row.
-- Assumes nothing.
use Rattle.std.specs.Prelude.{ℕ, ◌*◌, ◌/◌, ◌≤◌, ◌<◌, ◌≡◌, true, List, length, get_or}
use Rattle.pack.specs.Opening.{rows_good, is_start}

-- rows that were found good
pub record GoodRows (rows : List ℕ) : Type 0 where
  pub count : ℕ
  pub good : rows_good rows count 1 0 ≡ true

-- good rows lie from a place on to the end, and tell whether o is one of the n starts
pub record Tells (rows : List ℕ) (n o at : ℕ) : Type 0 where
  pub left : ℕ
  pub low : ℕ
  pub good : rows_good rows left low at ≡ true
  pub same : is_start rows n 0 o ≡ is_start rows left at o

-- enough stretches of one width for the row area
pub record Cut (rows : List ℕ) (width : ℕ) (starts : List ℕ) : Type 0 where
  pub some : 0 < width
  pub small : width ≤ 4_294_967_296
  pub enough : length rows ≤ length starts * width

-- the row area is cut in stretches of one width; a place is kept for each, from which its offsets are told
pub record Starts (rows : List ℕ) (n width : ℕ) (starts : List ℕ) : Type 0 where
  pub good : rows_good rows n 1 0 ≡ true
  pub tells : (o : ℕ) → o < length rows → Tells rows n o (get_or starts (o / width) 0)
