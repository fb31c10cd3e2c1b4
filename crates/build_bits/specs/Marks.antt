-- Marks of a shelf's rows as bits, and where the rows of each block of 64 start: what they come to as the lists of marks of
-- which a builder's definitions speak.
-- Assumes nothing.
use Rattle.std.specs.Prelude.{ℕ, zero, suc, ◌+◌, ◌*◌, ◌-◌, ◌≤◌, ◌<◌, ◌≡◌, cond, List, [], ◌∷◌, get_or}
use Rattle.bits.specs.Bits.{marked}
use Rattle.shelf.specs.declared.Shelf.{Shelf}
use Rattle.shelf.specs.Shelf.{last_of}
use Rattle.shelf.specs.Stock.{Stock, ahead}
use Rattle.build_place.specs.declared.inner.Sums.{Sums}
use Rattle.build.specs.Rows.{bytes_to, count_to}

-- the marks of k places from i on: 1 where the bit is set
abbrev pub marks_from : List ℕ → ℕ → ℕ → List ℕ
marks_from bits zero i = []
marks_from bits (suc k) i = cond (marked bits i) 1 0 ∷ marks_from bits k (suc i)

-- the marks of n places
unfoldable pub bit_marks : List ℕ → ℕ → List ℕ
bit_marks bits n = marks_from bits n 0

-- those of the rows of a shelf
abbrev pub shelf_marks : Shelf → (file bits : List ℕ) → List ℕ
shelf_marks s file bits = bit_marks bits (last_of s file)

-- the marked rows from one on below another: how many, in how many bytes
pub record SumsIn (st : Stock) (marks : List ℕ) (from to : ℕ) (r : Sums) : Type 0 where
  pub rows : count_to marks (from - 1) + r.rows ≡ count_to marks (to - 1)
  pub bytes : bytes_to st marks (from - 1) + r.bytes ≡ bytes_to st marks (to - 1)
  pub few : r.rows ≤ to - from
  pub short : r.bytes ≤ 104 * (to - from)

-- the start of each block, the rows standing from `start` on: the 64 rows of block k are those behind row 64 * k
pub record Blocks (st : Stock) (marks : List ℕ) (start : ℕ) (blocks : List ℕ) : Type 0 where
  pub each : (k : ℕ) → 64 * k < ahead st → get_or blocks k 0 ≡ start + bytes_to st marks (64 * k)
