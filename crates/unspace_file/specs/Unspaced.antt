-- Archived table and point files rewritten: "rewrites an identifier of all spaces, zero bytes in the header and 255 in the
-- trailer, and no other byte; a file that isn't two or more whole records is passed through as it came" (document 02, No. 9).
-- Assumes nothing.
use Rattle.std.specs.Prelude.{ℕ, zero, suc, ◌+◌, ◌-◌, ◌*◌, ◌/◌, ◌≤◌, ◌<◌, Bool, cond, ◌&&◌, List, ◌⊎◌, leb, eqb, length, set}
use Rattle.field.specs.Test.{only}
use Rattle.field.specs.Text.{part}

-- n bytes from a place on, each b
abbrev pub filled : (n at b : ℕ) → List ℕ → List ℕ
filled zero at b file = file
filled (suc n) at b file = set (filled n at b file) (at + n) b

-- "all spaces": w bytes from a place on
abbrev pub spaces_at : (w at : ℕ) → List ℕ → Bool
spaces_at w at file = only 32 (part file at (at + w))

unfoldable pub rewritten : (w at b : ℕ) → List ℕ → List ℕ
rewritten w at b file = cond (spaces_at w at file) (filled w at b file) file

-- of a file whose records are `width` bytes and begin, the first and the last, with an identifier of w
module _ (width w : ℕ) (file : List ℕ) where
  -- "two or more whole records"
  abbrev pub whole_records : Bool
  whole_records = eqb (length file / width * width) (length file) && leb 2 (length file / width)

  -- where the last begins
  abbrev pub last_start : ℕ
  last_start = length file - width

  unfoldable pub unspaced : List ℕ
  unspaced = cond whole_records (rewritten w last_start 255 (rewritten w 0 0 file)) file

  -- how many identifiers that rewrites
  unfoldable pub unspaced_count : ℕ
  unspaced_count = cond whole_records (cond (spaces_at w 0 file) 1 0 + cond (spaces_at w last_start file) 1 0) 0

  -- "no other byte": a place that is in neither identifier
  abbrev pub Outside : ℕ → Type 0
  Outside i = (w ≤ i) × ((i < last_start) ⊎ (last_start + w ≤ i))
