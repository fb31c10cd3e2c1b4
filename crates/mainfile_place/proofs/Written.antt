-- The marked rows of a set written file by file.
-- Assumes nothing.
use Prim.Native.Nat.{ℕ, ◌+◌, ◌≤◌}
use mathlib.Core.Path.{◌≡◌, subst}
use mathlib.Core.List.{List, ◌++◌}
use lib.ListN.{length}
use Rattle.label.specs.Put.{Put}
use Rattle.label.proofs.Going.{Going, going_start, going-as}
use Rattle.shelf.specs.declared.Shelf.{Shelf}
use Rattle.shelf.specs.Shelf.{Fit}
use Rattle.shelf.specs.Stock.{stock_of}
use Rattle.build.specs.Bytes.{used_rows}
use Rattle.build_bits.specs.Marks.{shelf_marks}
use Rattle.build_bits.proofs.Marks.{bits-long}
use Rattle.mainfile.specs.Set.{Set}
use Rattle.mainfile.specs.Rows.{shelf_of, kind_stock}
use Rattle.mainfile_source.proofs.Shelves.{kind_fits}
use Rattle.mainfile_mark.specs.Marks.{kind_marks, set_marks, used_in_set, Ended}
use Rattle.mainfile_mark.proofs.Marks.{set-used}

-- those of one file
abbrev pub used_of : Set → (kind : ℕ) → (bits : List ℕ) → List ℕ
used_of s kind bits = used_rows (kind_stock s kind) (kind_marks s kind bits)

abbrev pub shelf_used : Shelf → (file bits : List ℕ) → List ℕ
shelf_used shelf file bits = used_rows (stock_of shelf file) (shelf_marks shelf file bits)

module _ (kind : ℕ) {shelf : Shelf} (is : shelf ≡ shelf_of kind) (file bits : List ℕ) where
  pub room_of : (at n : ℕ) → at + length (shelf_used (shelf_of kind) file bits) ≤ n
      → Fit shelf × (at + length (shelf_used shelf file bits) ≤ n)
  room_of at n h = rw is (kind_fits kind, h)

  pub put_of : {o x : List ℕ} {at r : ℕ} → Put (shelf_used shelf file bits) o at r x
      → Put (shelf_used (shelf_of kind) file bits) o at r x
  put_of {o} {x} {at} {r} v = subst (λ (sh : Shelf). Put (shelf_used sh file bits) o at r x) is v

module _ (s : Set) (b₁ b₂ b₃ b₄ b₅ : List ℕ) (e : Ended s) where
  long : (kind : ℕ) (bits : List ℕ) → length (kind_marks s kind bits) ≡ (kind_stock s kind).last
  long kind bits = bits-long bits (kind_stock s kind).last

  pub used_start : (out : List ℕ) (at : ℕ)
      → Going (used_in_set s b₁ b₂ b₃ b₄ b₅)
      (used_of s 1 b₁ ++ (used_of s 2 b₂ ++ (used_of s 3 b₃ ++ (used_of s 4 b₄ ++ used_of s 5 b₅)))) out at at out
  unfolding set_marks
  used_start out at =
      going-as
      (set-used s (kind_marks s 1 b₁) (kind_marks s 2 b₂) (kind_marks s 3 b₃) (kind_marks s 4 b₄) (kind_marks s 5 b₅) (long 1 b₁)
      (long 2 b₂) (long 3 b₃) (long 4 b₄) e.of_localities e.of_thoroughfares e.of_descriptors e.of_buildings
      e.of_sub_buildings)
      (going_start (used_in_set s b₁ b₂ b₃ b₄ b₅) out at)
