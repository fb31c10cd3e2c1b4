-- What is known of a pack when its points are judged.
-- Assumes nothing.
use Rattle.std.specs.Prelude.{ℕ, zero, suc, ◌+◌, ◌*◌, ◌^◌, ◌≤◌, ◌<◌, Bool, true, ◌&&◌, ◌≡◌, List, leb, length}
use Rattle.pack.specs.Names.{address_key_at, point_width, trailer_width}
use Rattle.pack.specs.Numbers.{number_at}
use Rattle.pack.specs.Opening.{edition, offset_good, row_count, points_start, point_count, row_area, rows_good, offset_kinds, rest_of, given, organisation_key, building_number, offsets_good, postcode_good, suffix_good, plain_good, allowed_mix, organisation_good}
use Rattle.pack_rows.specs.Walks.{Cut, Starts}
use Rattle.pack_rows.specs.Marks.{Fine}

-- the points end at the trailer
abbrev pub Sized : List ℕ → Type 0
Sized pack = points_start pack + point_width (edition pack) * point_count pack + trailer_width (edition pack) ≡ length pack

-- all bytes of a point are there
abbrev pub PointIn : List ℕ → ℕ → Type 0
PointIn pack at = at + point_width (edition pack) ≤ length pack

-- good rows of the pack's row area
pub record Area (pack rows : List ℕ) : Type 0 where
  pub area : rows ≡ row_area pack
  pub small : length rows < 4_294_967_296
  pub good : rows_good rows (row_count pack) 1 0 ≡ true

-- bits tell where those rows start
pub record Marked (pack rows marks : List ℕ) : Type 0 where
  pub area : rows ≡ row_area pack
  pub room : length rows ≤ length marks * 32
  pub fine : Fine rows (row_count pack) marks

-- walks do, from the starts that are kept
pub record Told (pack rows : List ℕ) (width : ℕ) (starts : List ℕ) : Type 0 where
  pub area : rows ≡ row_area pack
  pub cut : Cut rows width starts
  pub kept : Starts rows (row_count pack) width starts

-- a type and an offset may be asked, and the answer is whether that offset is good
pub record Judges (pack : List ℕ) (pre : ℕ → ℕ → Type 0) (post : ℕ → ℕ → Bool → Type 0) : Type 0 where
  pub may : (kind o : ℕ) → kind < 256 → o < 2 ^ 64 → pre kind o
  pub right : (kind o : ℕ) → kind < 256 → o < 2 ^ 64 → (r : Bool) → post kind o r
      → r ≡ offset_good (row_area pack) (row_count pack) kind o

-- "keys up to 99,999,999; number up to 9,999"
abbrev pub numbers_good : List ℕ → ℕ → Bool
numbers_good pack rest =
    leb (number_at pack (rest + address_key_at) 4) 99_999_999
    && (leb (organisation_key pack rest) 99_999_999 && leb (building_number pack rest) 9_999)

-- all that a point has to have but its offsets
unfoldable pub rest_good : List ℕ → ℕ → ℕ → Bool
rest_good pack at rest =
    given pack rest 0
    && (postcode_good pack at
    && (suffix_good pack at && (plain_good pack rest && (allowed_mix pack rest && organisation_good pack rest))))

-- a test of n points of one width from a place on
abbrev pub each_point : (ℕ → Bool) → ℕ → ℕ → ℕ → Bool
each_point good width zero at = true
each_point good width (suc n) at = good at && each_point good width n (at + width)

-- the same of all points of a pack
abbrev pub all_points : List ℕ → (ℕ → Bool) → Bool
all_points pack good = each_point good (point_width (edition pack)) (point_count pack) (points_start pack)

-- the offsets of the point at a place, and all else of it
abbrev pub offsets_fine : List ℕ → ℕ → Bool
offsets_fine pack at = offsets_good pack (rest_of pack at) 0 offset_kinds

abbrev pub fields_fine : List ℕ → ℕ → Bool
fields_fine pack at = rest_good pack at (rest_of pack at)

-- the numbers in which the starts of good rows are kept: bits, where the rows were found fine
pub record Kept (pack rows : List ℕ) (fine : Bool) (kept : List ℕ) : Type 0 where
  pub area : Area pack rows
  pub size : length kept ≡ 16_384
  pub marked : fine ≡ true → Fine rows (row_count pack) kept
