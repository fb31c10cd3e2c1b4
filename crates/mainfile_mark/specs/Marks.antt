-- Marks of the rows of a set: bits for each of its five files of rows, and the one list of marks that they come to.
-- Assumes nothing.
use Rattle.std.specs.Prelude.{ℕ, ◌*◌, ◌≤◌, ◌<◌, List, [], ◌∷◌, length, get_or}
use Rattle.build.specs.Rows.{joined_marks}
use Rattle.build.specs.Bytes.{used_rows}
use Rattle.build_bits.specs.Marks.{shelf_marks}
use Rattle.mainfile.specs.Set.{Set}
use Rattle.mainfile.specs.Rows.{shelf_of, file_of, kind_stock, set_stock}
use Rattle.mainfile_source.specs.Rows.{rows_ahead, behind_by}

-- the marks of five files, one behind the other
abbrev pub five_marks : (localities thoroughfares descriptors buildings sub_buildings : List ℕ) → List ℕ
five_marks localities thoroughfares descriptors buildings sub_buildings =
    joined_marks localities (joined_marks thoroughfares (joined_marks descriptors (joined_marks buildings sub_buildings)))

-- those of the rows of one kind, by bits
abbrev pub kind_marks : Set → (kind : ℕ) → (bits : List ℕ) → List ℕ
kind_marks s kind bits = shelf_marks (shelf_of kind) (file_of s kind) bits

-- those of all rows of a set
unfoldable pub set_marks : Set → (localities thoroughfares descriptors buildings sub_buildings : List ℕ) → List ℕ
set_marks s localities thoroughfares descriptors buildings sub_buildings =
    five_marks (kind_marks s 1 localities) (kind_marks s 2 thoroughfares) (kind_marks s 3 descriptors)
    (kind_marks s 4 buildings) (kind_marks s 5 sub_buildings)

-- the marked rows of a set
abbrev pub used_in_set : Set → (localities thoroughfares descriptors buildings sub_buildings : List ℕ) → List ℕ
used_in_set s localities thoroughfares descriptors buildings sub_buildings =
    used_rows (set_stock s) (set_marks s localities thoroughfares descriptors buildings sub_buildings)

-- the rows of seven keys, each in the file of its kind, as rows of the set
abbrev pub set_rows : Set → List ℕ → List ℕ
set_rows s rows =
    get_or rows 0 0
    ∷ behind_by (rows_ahead s 2) (get_or rows 1 0)
    ∷ behind_by (rows_ahead s 3) (get_or rows 2 0)
    ∷ behind_by (rows_ahead s 2) (get_or rows 3 0)
    ∷ behind_by (rows_ahead s 3) (get_or rows 4 0)
    ∷ behind_by (rows_ahead s 4) (get_or rows 5 0)
    ∷ behind_by (rows_ahead s 5) (get_or rows 6 0)
    ∷ []

-- each of them is a row of its file, or 0
pub record InFiles (s : Set) (rows : List ℕ) : Type 0 where
  pub locality : get_or rows 0 0 < (kind_stock s 1).last
  pub thoroughfare : get_or rows 1 0 < (kind_stock s 2).last
  pub descriptor : get_or rows 2 0 < (kind_stock s 3).last
  pub dependent : get_or rows 3 0 < (kind_stock s 2).last
  pub second : get_or rows 4 0 < (kind_stock s 3).last
  pub building : get_or rows 5 0 < (kind_stock s 4).last
  pub sub_building : get_or rows 6 0 < (kind_stock s 5).last

-- there is a bit for each row of each file
pub record BitsFor (s : Set) (localities thoroughfares descriptors buildings sub_buildings : List ℕ) : Type 0 where
  pub of_localities : (kind_stock s 1).last ≤ length localities * 32
  pub of_thoroughfares : (kind_stock s 2).last ≤ length thoroughfares * 32
  pub of_descriptors : (kind_stock s 3).last ≤ length descriptors * 32
  pub of_buildings : (kind_stock s 4).last ≤ length buildings * 32
  pub of_sub_buildings : (kind_stock s 5).last ≤ length sub_buildings * 32

-- each file of rows has an end, even where it has no rows
pub record Ended (s : Set) : Type 0 where
  pub of_localities : 1 ≤ (kind_stock s 1).last
  pub of_thoroughfares : 1 ≤ (kind_stock s 2).last
  pub of_descriptors : 1 ≤ (kind_stock s 3).last
  pub of_buildings : 1 ≤ (kind_stock s 4).last
  pub of_sub_buildings : 1 ≤ (kind_stock s 5).last
