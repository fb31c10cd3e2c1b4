-- The files of rows of an accepted set are short, and so are their rows, so that no sum is too large.
-- Assumes nothing.
use Prim.Native.Nat.{ℕ, zero, suc, ◌+◌, ◌*◌, ◌-◌, ◌/◌, ◌≤◌}
use mathlib.Core.Path.{◌≡◌, refl}
use mathlib.Core.Bool.{Bool, true, false, cond}
use mathlib.Core.List.{List}
use native.Mathlib.Omega.{arith}
use borrow.Author.Tests.{eqb-true, eqb-false}
use lib.Dec.{eqb}
use lib.ListN.{length}
use Rattle.field.proofs.Fronts.{text_in-bound}
use Rattle.file.specs.Check.{Format}
use Rattle.file.specs.Accepted.{Accepted}
use Rattle.file.specs.Mainfile as Main
use Rattle.file.proofs.Laws.{at-least-two, within-limit}
use Rattle.source.specs.Address.{kind_of}
use Rattle.shelf.specs.declared.Shelf.{Shelf}
use Rattle.shelf.specs.Shelf.{text_width, record_of, ref_at, last_of}
use Rattle.shelf.specs.Stock.{stock_of}
use Rattle.build.specs.Rows.{row_bytes_at, is_marked, bytes_to, all_bytes, all_count}
use Rattle.build.proofs.Laws.{row-of-three, row-of-one}
use Rattle.build_exact.proofs.Size.{rows_few}
use Rattle.mainfile.specs.Set.{Set}
use Rattle.mainfile.specs.Rows.{shelf_of, file_of, kind_stock}
use Rattle.mainfile.specs.Accepted.{AcceptedRows}

-- ---- one row

wide : (kind : ℕ) → text_width kind ≤ 60
wide kind = by_tests (eqb kind 2) (eqb kind 3) (eqb kind 4)
  where
    by_tests : (t u v : Bool) → cond t 60 (cond u 20 (cond v 50 30)) ≤ 60
    by_tests true u v = omega arith
    by_tests false true v = omega arith
    by_tests false false true = omega arith
    by_tests false false false = omega arith

-- "post town 30, dependent locality 35, double dependent locality 35", or a text of at most 60
row-short : (s : Shelf) (file : List ℕ) (i : ℕ) → length (row_bytes_at (stock_of s file) i) ≤ 104
row-short s file i = by-test (eqb (kind_of (ref_at s file i)) 1) refl
  where
    rec : List ℕ
    rec = record_of s file i

    by-test : (t : Bool) → eqb (kind_of (ref_at s file i)) 1 ≡ t → length (row_bytes_at (stock_of s file) i) ≤ 104
    by-test true e =
        let l = s.locality in
        omega (
          arith,
          row-of-three s file i (eqb-true (kind_of (ref_at s file i)) 1 e),
          text_in-bound rec l (l + 30),
          text_in-bound rec (l + 30) (l + 65),
          text_in-bound rec (l + 65) (l + 100),
        )
    by-test false e =
        let width = text_width (kind_of (ref_at s file i)) in
        omega (
          arith,
          row-of-one s file i (eqb-false (kind_of (ref_at s file i)) 1 e),
          text_in-bound rec s.text (s.text + width),
          wide (kind_of (ref_at s file i)),
        )

-- ---- the marked rows of a shelf

bytes-short : (s : Shelf) (file marks : List ℕ) (n : ℕ) → bytes_to (stock_of s file) marks n ≤ 104 * n
bytes-short s file marks zero = omega arith
bytes-short s file marks (suc n) = by-test (is_marked marks (suc n)) (bytes-short s file marks n)
  where
    by-test : (t : Bool) → bytes_to (stock_of s file) marks n ≤ 104 * n
        → bytes_to (stock_of s file) marks n + cond t (length (row_bytes_at (stock_of s file) (suc n))) 0 ≤ 104 * suc n
    by-test true h = omega (arith, h, row-short s file (suc n))
    by-test false h = omega (arith, h)

pub sums-small : (s : Shelf) (file marks : List ℕ) → (stock_of s file).last ≤ 1_000_000
    → (all_count (stock_of s file) marks ≤ 1_000_000) × (all_bytes (stock_of s file) marks ≤ 104_000_000)
sums-small s file marks h =
    let last = (stock_of s file).last in
    (omega (arith, rows_few marks (last - 1)), omega (arith, bytes-short s file marks (last - 1)))

-- ---- a set whose files of rows are accepted

counted : (f : Format) (file : List ℕ) → Accepted f file
    → (1 ≤ length file / f.width - 1) × (length file / f.width - 1 ≤ f.limit)
counted f file a =
    (omega (arith, at-least-two f file a.is_whole), omega (arith, within-limit f file a.is_whole))

module _ (s : Set) (ok : AcceptedRows s) where
  -- "extracts with at most 1,000,000 records each", and each has an end
  pub kind-few : (kind : ℕ) → (1 ≤ (kind_stock s kind).last) × ((kind_stock s kind).last ≤ 1_000_000)
  kind-few kind = by_tests (eqb kind 1) (eqb kind 2) (eqb kind 3) (eqb kind 4)
    where
      Few : Shelf → List ℕ → Type 0
      Few shelf file = (1 ≤ last_of shelf file) × (last_of shelf file ≤ 1_000_000)

      by_tests : (t u v w : Bool)
          → Few
          (cond t (shelf_of 1) (cond u (shelf_of 2) (cond v (shelf_of 3) (cond w (shelf_of 4) (shelf_of 5)))))
          (cond t (file_of s 1) (cond u (file_of s 2) (cond v (file_of s 3) (cond w (file_of s 4) (file_of s 5)))))
      by_tests true u v w = counted Main.localities s.localities ok.localities
      by_tests false true v w = counted Main.thoroughfares s.thoroughfares ok.thoroughfares
      by_tests false false true w = counted Main.descriptors s.descriptors ok.descriptors
      by_tests false false false true = counted Main.buildings s.buildings ok.buildings
      by_tests false false false false = counted Main.sub_buildings s.sub_buildings ok.sub_buildings
