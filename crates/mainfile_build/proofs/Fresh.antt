-- Marks before any row is marked, and how many there are.
-- Assumes nothing.
use Prim.Native.Nat.{ℕ, zero, suc}
use mathlib.Core.Path.{◌≡◌, refl}
use mathlib.Core.List.{List, [], ◌∷◌, ◌++◌}
use native.Mathlib.Omega.{arith}
use lib.ListN.{length, drop, get_or}
use Rattle.bits.specs.Bits.{Unmarked}
use Rattle.shelf.specs.Stock.{Stock, joined}
use Rattle.build.specs.Rows.{joined_marks}
use Rattle.build.proofs.Joined.{marks-long}
use Rattle.build_bits.specs.Marks.{marks_from, bit_marks}
use Rattle.build_bits.proofs.Marks.{bits-long}
use Rattle.mainfile.specs.Set.{Set}
use Rattle.mainfile.specs.Rows.{kind_stock, set_stock}
use Rattle.mainfile.specs.Accepted.{AcceptedRows}
use Rattle.mainfile_mark.specs.Marks.{kind_marks, set_marks}
use Rattle.mainfile_mark.proofs.Packed.{accepted-ended}

-- no mark is set
abbrev pub None : List ℕ → Type 0
None marks = (i : ℕ) → get_or marks i 0 ≡ 0

none-append : (a b : List ℕ) → None a → None b → None (a ++ b)
none-append [] b f g i = g i
none-append (x ∷ a) b f g zero = f 0
none-append (x ∷ a) b f g (suc i) = none-append a b (λ j. f (suc j)) g i

none-drop : (b : List ℕ) → None b → None (drop 1 b)
none-drop [] f i = refl
none-drop (x ∷ b) f i = f (suc i)

none-joined : (a b : List ℕ) → None a → None b → None (joined_marks a b)
none-joined a b f g = none-append a (drop 1 b) f (none-drop b g)

none_from : (bits : List ℕ) → Unmarked bits → (k i : ℕ) → None (marks_from bits k i)
none_from bits u zero i j = refl
none_from bits u (suc k) i zero = rw (u i) refl
none_from bits u (suc k) i (suc j) = none_from bits u k (suc i) j

module _ (s : Set) where
  none-kind : (kind : ℕ) (bits : List ℕ) → Unmarked bits → None (kind_marks s kind bits)
  unfolding bit_marks
  none-kind kind bits u = none_from bits u (kind_stock s kind).last 0

  -- where no bit is set, no row of a set is marked
  pub set-none : (b₁ b₂ b₃ b₄ b₅ : List ℕ) → Unmarked b₁ → Unmarked b₂ → Unmarked b₃ → Unmarked b₄ → Unmarked b₅
      → None (set_marks s b₁ b₂ b₃ b₄ b₅)
  unfolding set_marks
  set-none b₁ b₂ b₃ b₄ b₅ u₁ u₂ u₃ u₄ u₅ =
      let m : ℕ → List ℕ → List ℕ = kind_marks s in
      let four = none-joined (m 4 b₄) (m 5 b₅) (none-kind 4 b₄ u₄) (none-kind 5 b₅ u₅) in
      let three = none-joined (m 3 b₃) (joined_marks (m 4 b₄) (m 5 b₅)) (none-kind 3 b₃ u₃) four in
      let two =
      none-joined (m 2 b₂) (joined_marks (m 3 b₃) (joined_marks (m 4 b₄) (m 5 b₅))) (none-kind 2 b₂ u₂) three in
      none-joined (m 1 b₁) (joined_marks (m 2 b₂) (joined_marks (m 3 b₃) (joined_marks (m 4 b₄) (m 5 b₅))))
      (none-kind 1 b₁ u₁) two

-- a mark for each row, and one for none
module _ (s : Set) (ok : AcceptedRows s) (b₁ b₂ b₃ b₄ b₅ : List ℕ) where
  long : (kind : ℕ) (bits : List ℕ) → length (kind_marks s kind bits) ≡ (kind_stock s kind).last
  long kind bits = bits-long bits (kind_stock s kind).last

  abbrev m : (kind : ℕ) → (bits : List ℕ) → List ℕ
  m kind bits = kind_marks s kind bits

  abbrev marks₄ : List ℕ
  marks₄ = joined_marks (m 4 b₄) (m 5 b₅)

  abbrev marks₃ : List ℕ
  marks₃ = joined_marks (m 3 b₃) marks₄

  abbrev marks₂ : List ℕ
  marks₂ = joined_marks (m 2 b₂) marks₃

  abbrev from₄ : Stock
  from₄ = joined (kind_stock s 4) (kind_stock s 5)

  abbrev from₃ : Stock
  from₃ = joined (kind_stock s 3) from₄

  abbrev from₂ : Stock
  from₂ = joined (kind_stock s 2) from₃

  long₄ : length marks₄ ≡ from₄.last
  long₄ =
      let e = accepted-ended s ok in
      marks-long (kind_stock s 4) (kind_stock s 5) (m 4 b₄) (m 5 b₅) (long 4 b₄) e.of_buildings
      (omega (arith, long 5 b₅, e.of_sub_buildings)) (long 5 b₅)

  long₃ : length marks₃ ≡ from₃.last
  long₃ =
      let e = accepted-ended s ok in
      marks-long (kind_stock s 3) from₄ (m 3 b₃) marks₄ (long 3 b₃) e.of_descriptors
      (omega (arith, long₄, e.of_sub_buildings)) long₄

  long₂ : length marks₂ ≡ from₂.last
  long₂ =
      let e = accepted-ended s ok in
      marks-long (kind_stock s 2) from₃ (m 2 b₂) marks₃ (long 2 b₂) e.of_thoroughfares
      (omega (arith, long₃, e.of_sub_buildings)) long₃

  pub set_long : length (set_marks s b₁ b₂ b₃ b₄ b₅) ≡ (set_stock s).last
  unfolding set_marks set_stock
  set_long =
      let e = accepted-ended s ok in
      marks-long (kind_stock s 1) from₂ (m 1 b₁) marks₂ (long 1 b₁) e.of_localities
      (omega (arith, long₂, e.of_sub_buildings)) long₂
