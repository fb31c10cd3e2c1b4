-- Where the rows of one file stand among those of a set: behind the rows of the files before it, in so many bytes.
-- Assumes nothing.
use Prim.Native.Nat.{ℕ, ◌+◌, ◌≤◌}
use mathlib.Core.Path.{◌≡◌, sym, ap, ◌∙◌}
use mathlib.Core.List.{List}
use native.Mathlib.Omega.{arith}
use native.Mathlib.Nat.{zero-add}
use lib.ListN.{length}
use Rattle.shelf.specs.Stock.{Stock, ahead, joined}
use Rattle.build.specs.Rows.{bytes_to, all_bytes, all_count, joined_marks}
use Rattle.build.proofs.Joined.{bytes-first, bytes-second}
use Rattle.build_bits.proofs.Marks.{bits-long}
use Rattle.mainfile.specs.Set.{Set}
use Rattle.mainfile.specs.Rows.{kind_stock, set_stock}
use Rattle.mainfile_source.specs.Rows.{rows_ahead}
use Rattle.mainfile_mark.specs.Marks.{kind_marks, set_marks, Ended}
use Rattle.mainfile_mark.proofs.Marks.{set-bytes, set-count}
use Rattle.mainfile_place.specs.Blocks.{kind_bytes}

-- the rows of one stock among those of a whole, behind so many rows in so many bytes
pub record Stands (whole : Stock) (marks : List ℕ) (rows bytes : ℕ) (st : Stock) (own : List ℕ) : Type 0 where
  pub each : (n : ℕ) → n ≤ ahead st → bytes_to whole marks (rows + n) ≡ bytes + bytes_to st own n

stands-own : (st : Stock) (own : List ℕ) → Stands st own 0 0 st own
stands-own st own =
    record { each = λ n h. ap (bytes_to st own) (zero-add n) ∙ sym (zero-add (bytes_to st own n)) }

stands-as : {whole st : Stock} {marks own : List ℕ} {rows bytes more size : ℕ} → rows ≡ more → bytes ≡ size
    → Stands whole marks rows bytes st own
    → Stands whole marks more size st own
stands-as {whole} {st} {marks} {own} e f h =
    record {
      each =
          λ n l. ap (λ r. bytes_to whole marks (r + n)) (sym e) ∙ (h.each n l ∙ ap (λ b. b + bytes_to st own n) f);
    }

module _ (a b : Stock) (first second : List ℕ) (long : length first ≡ a.last) (some : 1 ≤ a.last) where
  stands-first : Stands (joined a b) (joined_marks first second) 0 0 a first
  stands-first =
      record {
        each =
            λ n h.
            ap (bytes_to (joined a b) (joined_marks first second)) (zero-add n)
            ∙ (bytes-first a b first second long some n h ∙ sym (zero-add (bytes_to a first n)));
      }

  stands-behind : {rows bytes : ℕ} {st : Stock} {own : List ℕ} → Stands b second rows bytes st own
      → Stands (joined a b) (joined_marks first second) (ahead a + rows) (all_bytes a first + bytes) st own
  stands-behind {rows} {bytes} {st} {own} h =
      record {
        each =
            λ n l.
            let sum : ahead a + rows + n ≡ ahead a + (rows + n) = omega arith in
            ap (bytes_to (joined a b) (joined_marks first second)) sum
            ∙ (bytes-second a b first second long some (rows + n)
            ∙ (ap (all_bytes a first +◌) (h.each n l) ∙ omega arith));
      }

module _ (s : Set) (b₁ b₂ b₃ b₄ b₅ : List ℕ) (e : Ended s) where
  abbrev k₁ : Stock
  k₁ = kind_stock s 1

  abbrev k₂ : Stock
  k₂ = kind_stock s 2

  abbrev k₃ : Stock
  k₃ = kind_stock s 3

  abbrev k₄ : Stock
  k₄ = kind_stock s 4

  abbrev k₅ : Stock
  k₅ = kind_stock s 5

  abbrev m₁ : List ℕ
  m₁ = kind_marks s 1 b₁

  abbrev m₂ : List ℕ
  m₂ = kind_marks s 2 b₂

  abbrev m₃ : List ℕ
  m₃ = kind_marks s 3 b₃

  abbrev m₄ : List ℕ
  m₄ = kind_marks s 4 b₄

  abbrev m₅ : List ℕ
  m₅ = kind_marks s 5 b₅

  abbrev from₄ : Stock
  from₄ = joined k₄ k₅

  abbrev from₃ : Stock
  from₃ = joined k₃ from₄

  abbrev from₂ : Stock
  from₂ = joined k₂ from₃

  abbrev marks₄ : List ℕ
  marks₄ = joined_marks m₄ m₅

  abbrev marks₃ : List ℕ
  marks₃ = joined_marks m₃ marks₄

  abbrev marks₂ : List ℕ
  marks₂ = joined_marks m₂ marks₃

  long : (kind : ℕ) (bits : List ℕ) → length (kind_marks s kind bits) ≡ (kind_stock s kind).last
  long kind bits = bits-long bits (kind_stock s kind).last

  -- behind the first file, the first two, and so on
  module _ {rows bytes : ℕ} {st : Stock} {own : List ℕ} where
    behind-1 : Stands from₂ marks₂ rows bytes st own
        → Stands (set_stock s) (set_marks s b₁ b₂ b₃ b₄ b₅) (ahead k₁ + rows) (kind_bytes s 1 b₁ + bytes) st own
    unfolding set_stock set_marks
    behind-1 h = stands-behind k₁ from₂ m₁ marks₂ (long 1 b₁) e.of_localities h

    behind-2 : Stands from₃ marks₃ rows bytes st own
        → Stands from₂ marks₂ (ahead k₂ + rows) (kind_bytes s 2 b₂ + bytes) st own
    behind-2 h = stands-behind k₂ from₃ m₂ marks₃ (long 2 b₂) e.of_thoroughfares h

    behind-3 : Stands from₄ marks₄ rows bytes st own
        → Stands from₃ marks₃ (ahead k₃ + rows) (kind_bytes s 3 b₃ + bytes) st own
    behind-3 h = stands-behind k₃ from₄ m₃ marks₄ (long 3 b₃) e.of_descriptors h

    behind-4 : Stands k₅ m₅ rows bytes st own
        → Stands from₄ marks₄ (ahead k₄ + rows) (kind_bytes s 4 b₄ + bytes) st own
    behind-4 h = stands-behind k₄ k₅ m₄ m₅ (long 4 b₄) e.of_buildings h

  -- the rows of a kind, those of the files before it having so many bytes
  abbrev pub KindStands : (kind : ℕ) → (bits : List ℕ) → (bytes : ℕ) → Type 0
  KindStands kind bits bytes =
      Stands (set_stock s) (set_marks s b₁ b₂ b₃ b₄ b₅) (rows_ahead s kind) bytes (kind_stock s kind) (kind_marks s kind bits)

  pub stands-1 : KindStands 1 b₁ 0
  unfolding set_stock set_marks
  stands-1 = stands-first k₁ from₂ m₁ marks₂ (long 1 b₁) e.of_localities

  pub stands-2 : KindStands 2 b₂ (kind_bytes s 1 b₁)
  stands-2 =
      stands-as (omega arith) (omega arith)
      (behind-1 (stands-first k₂ from₃ m₂ marks₃ (long 2 b₂) e.of_thoroughfares))

  pub stands-3 : KindStands 3 b₃ (kind_bytes s 1 b₁ + kind_bytes s 2 b₂)
  stands-3 =
      stands-as (omega arith) (omega arith)
      (behind-1 (behind-2 (stands-first k₃ from₄ m₃ marks₄ (long 3 b₃) e.of_descriptors)))

  pub stands-4 : KindStands 4 b₄ (kind_bytes s 1 b₁ + kind_bytes s 2 b₂ + kind_bytes s 3 b₃)
  stands-4 =
      stands-as (omega arith) (omega arith)
      (behind-1 (behind-2 (behind-3 (stands-first k₄ k₅ m₄ m₅ (long 4 b₄) e.of_buildings))))

  pub stands-5 : KindStands 5 b₅ (kind_bytes s 1 b₁ + kind_bytes s 2 b₂ + kind_bytes s 3 b₃ + kind_bytes s 4 b₄)
  stands-5 =
      stands-as (omega arith) (omega arith)
      (behind-1 (behind-2 (behind-3 (behind-4 (stands-own k₅ m₅)))))

  -- how many marked rows there are, in how many bytes
  pub count-is : all_count (set_stock s) (set_marks s b₁ b₂ b₃ b₄ b₅)
      ≡ all_count k₁ m₁ + (all_count k₂ m₂ + (all_count k₃ m₃ + (all_count k₄ m₄ + all_count k₅ m₅)))
  unfolding set_marks
  count-is =
      set-count s m₁ m₂ m₃ m₄ m₅ (long 1 b₁) (long 2 b₂) (long 3 b₃) (long 4 b₄) e.of_localities e.of_thoroughfares
      e.of_descriptors e.of_buildings e.of_sub_buildings

  pub bytes-is : all_bytes (set_stock s) (set_marks s b₁ b₂ b₃ b₄ b₅)
      ≡ all_bytes k₁ m₁ + (all_bytes k₂ m₂ + (all_bytes k₃ m₃ + (all_bytes k₄ m₄ + all_bytes k₅ m₅)))
  unfolding set_marks
  bytes-is =
      set-bytes s m₁ m₂ m₃ m₄ m₅ (long 1 b₁) (long 2 b₂) (long 3 b₃) (long 4 b₄) e.of_localities e.of_thoroughfares
      e.of_descriptors e.of_buildings e.of_sub_buildings
