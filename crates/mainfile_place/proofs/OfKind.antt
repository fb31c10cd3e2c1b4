-- What is said of a shelf, said of the kind that is read so.
-- Assumes nothing.
use Prim.Native.Nat.{ℕ, ◌+◌, ◌-◌, ◌≤◌, ◌<◌}
use mathlib.Core.Path.{◌≡◌, subst}
use mathlib.Core.List.{List}
use native.Mathlib.Omega.{arith}
use Rattle.shelf.specs.declared.Shelf.{Shelf}
use Rattle.shelf.specs.Shelf.{Fit, last_of}
use Rattle.shelf.specs.Stock.{Stock, stock_of}
use Rattle.build.specs.Rows.{bytes_to, all_bytes, all_count}
use Rattle.build_place.specs.declared.inner.Sums.{Sums}
use Rattle.build_bits.specs.Marks.{shelf_marks, Blocks}
use Rattle.mainfile.specs.Rows.{shelf_of}
use Rattle.mainfile_source.proofs.Shelves.{kind_fits}
use Rattle.mainfile_place.specs.Blocks.{file_stock, file_marks}
use Rattle.mainfile_place.proofs.Small.{sums-small}

-- the marked rows of a shelf counted, and the starts of its blocks
abbrev Placed : Shelf → (file bits : List ℕ) → (start : ℕ) → Sums → (blocks : List ℕ) → Type 0
Placed shelf file bits start r blocks =
    (r.rows ≡ all_count (stock_of shelf file) (shelf_marks shelf file bits))
    × ((r.bytes ≡ all_bytes (stock_of shelf file) (shelf_marks shelf file bits))
    × Blocks (stock_of shelf file) (shelf_marks shelf file bits) start blocks)

-- where a row starts, whatever its shelf's rows start from
abbrev Starts : Shelf → (file bits blocks : List ℕ) → (row r : ℕ) → Type 0
Starts shelf file bits blocks row r =
    (start : ℕ) → Blocks (stock_of shelf file) (shelf_marks shelf file bits) start blocks
    → r ≡ start + bytes_to (stock_of shelf file) (shelf_marks shelf file bits) (row - 1)

module _ (kind : ℕ) {shelf : Shelf} (is : shelf ≡ shelf_of kind) (file : List ℕ) where
  pub fits-of : (n : ℕ) → ((file_stock kind file).last ≤ n) × ((file_stock kind file).last ≤ 1_000_000)
      → Fit shelf × ((last_of shelf file ≤ n) × (last_of shelf file ≤ 1_000_000))
  fits-of n h = rw is (kind_fits kind, h)

  pub row_of : (row : ℕ) → (row ≡ 0 → ⊥) → row < (file_stock kind file).last → (1 ≤ row) × (row < last_of shelf file)
  row_of row some h = rw is (omega (arith, some), h)

  module _ (bits : List ℕ) where
    pub placed_of : (start : ℕ) (r : Sums) (blocks : List ℕ) → Placed shelf file bits start r blocks
        → (file_stock kind file).last ≤ 1_000_000
        → (r.rows ≡ all_count (file_stock kind file) (file_marks kind file bits))
        × ((r.bytes ≡ all_bytes (file_stock kind file) (file_marks kind file bits))
        × (Blocks (file_stock kind file) (file_marks kind file bits) start blocks
        × ((r.rows ≤ 1_000_000) × (r.bytes ≤ 104_000_000))))
    placed_of start r blocks p few =
        let q = subst (λ (sh : Shelf). Placed sh file bits start r blocks) is p in
        let small = sums-small (shelf_of kind) file (file_marks kind file bits) few in
        (q.0, (q.1.0, (q.1.1, (omega (arith, q.0, small.0), omega (arith, q.1.0, small.1)))))

    pub starts-of : (blocks : List ℕ) (row r : ℕ) → Starts shelf file bits blocks row r
        → Starts (shelf_of kind) file bits blocks row r
    starts-of blocks row r h = subst (λ (sh : Shelf). Starts sh file bits blocks row r) is h

pub blocks_from : {st : Stock} {marks blocks : List ℕ} {start place : ℕ} → start ≡ place → Blocks st marks start blocks
    → Blocks st marks place blocks
blocks_from {st} {marks} {blocks} e b = subst (λ (n : ℕ). Blocks st marks n blocks) e b
