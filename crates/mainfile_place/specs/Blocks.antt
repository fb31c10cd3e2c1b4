-- Where the marked rows of a set start in a pack: a start for each block of 64 rows of each of its five files of rows, those of
-- one file behind all of the files before it.
-- Assumes nothing.
use Rattle.std.specs.Prelude.{ℕ, ◌+◌, ◌*◌, ◌-◌, ◌≤◌, ◌≡◌, true, cond, List, eqb, length}
use Rattle.field.specs.Test.{elem}
use Rattle.source.specs.Address.{present}
use Rattle.shelf.specs.Stock.{Stock, stock_of}
use Rattle.pack.specs.Names.{absent}
use Rattle.build.specs.Rows.{is_marked, bytes_to, all_bytes}
use Rattle.build_bits.specs.Marks.{shelf_marks, Blocks}
use Rattle.mainfile.specs.Set.{Set}
use Rattle.mainfile.specs.Rows.{shelf_of, kind_stock}
use Rattle.mainfile.specs.Accepted.{AcceptedRows}
use Rattle.mainfile_mark.specs.Marks.{kind_marks, set_marks, set_rows, InFiles}

-- the rows of a file, read as those of a kind, and their marks by bits
abbrev pub file_stock : (kind : ℕ) → (file : List ℕ) → Stock
file_stock kind file = stock_of (shelf_of kind) file

abbrev pub file_marks : (kind : ℕ) → (file bits : List ℕ) → List ℕ
file_marks kind file bits = shelf_marks (shelf_of kind) file bits

-- there is a block for each 64 rows of each file
pub record BlocksFor (s : Set) (localities thoroughfares descriptors buildings sub_buildings : List ℕ) : Type 0 where
  pub of_localities : (kind_stock s 1).last ≤ 64 * length localities
  pub of_thoroughfares : (kind_stock s 2).last ≤ 64 * length thoroughfares
  pub of_descriptors : (kind_stock s 3).last ≤ 64 * length descriptors
  pub of_buildings : (kind_stock s 4).last ≤ 64 * length buildings
  pub of_sub_buildings : (kind_stock s 5).last ≤ 64 * length sub_buildings

-- the bytes of the marked rows of one kind
abbrev pub kind_bytes : Set → (kind : ℕ) → (bits : List ℕ) → ℕ
kind_bytes s kind bits = all_bytes (kind_stock s kind) (kind_marks s kind bits)

-- the starts of one file's blocks, the marked rows standing from `start` on
abbrev pub KindBlocks : Set → (kind : ℕ) → (bits : List ℕ) → (start : ℕ) → (blocks : List ℕ) → Type 0
KindBlocks s kind bits start blocks = Blocks (kind_stock s kind) (kind_marks s kind bits) start blocks

-- those of all five: by the bits l, t, d, b, s of localities, thoroughfares, descriptors, buildings and sub buildings
pub record SetBlocks (set : Set) (l t d b s localities thoroughfares descriptors buildings sub_buildings : List ℕ) : Type 0
  where
    pub room : BlocksFor set localities thoroughfares descriptors buildings sub_buildings
    pub of_localities : KindBlocks set 1 l 0 localities
    pub of_thoroughfares : KindBlocks set 2 t (kind_bytes set 1 l) thoroughfares
    pub of_descriptors : KindBlocks set 3 d (kind_bytes set 1 l + kind_bytes set 2 t) descriptors
    pub of_buildings : KindBlocks set 4 b (kind_bytes set 1 l + kind_bytes set 2 t + kind_bytes set 3 d) buildings
    pub of_sub_buildings : KindBlocks set 5 s
        (kind_bytes set 1 l + kind_bytes set 2 t + kind_bytes set 3 d + kind_bytes set 4 b) sub_buildings

-- the offset of the row of a key, the marked rows of its file standing from `start` on; 0 where the key finds no row
abbrev pub offset_from : Stock → (marks : List ℕ) → (start key row : ℕ) → ℕ
offset_from st marks start key row =
    cond (present key) (cond (eqb row 0) 0 (start + bytes_to st marks (row - 1))) absent

-- each of these that is a row is marked
abbrev pub AllMarked : (marks rows : List ℕ) → Type 0
AllMarked marks rows = (row : ℕ) → 1 ≤ row → elem row rows ≡ true → is_marked marks row ≡ true

-- the rows of a delivery point, each in the file of its kind, are marked and have their starts
pub record RowsPlaced (set : Set)
    (l t d b s localities thoroughfares descriptors buildings sub_buildings rows : List ℕ) : Type 0 where
  pub accepted : AcceptedRows set
  pub blocks : SetBlocks set l t d b s localities thoroughfares descriptors buildings sub_buildings
  pub there : InFiles set rows
  pub marked : AllMarked (set_marks set l t d b s) (set_rows set rows)
