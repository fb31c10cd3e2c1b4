-- Laws of the marks of a set: a row of a kind is marked in the marks of its file; the marked rows are those of the five
-- files, one after the other.
-- Assumes nothing.
use Prim.Native.Nat.{ℕ, ◌+◌, ◌≤◌, ◌<◌}
use mathlib.Core.Path.{◌≡◌, refl, sym, ap, ◌∙◌}
use mathlib.Core.Bool.{Bool, true, false, cond}
use mathlib.Core.List.{List, ◌++◌}
use native.Mathlib.Omega.{arith}
use borrow.Author.Tests.{ne_eqb, eqb-false}
use lib.Dec.{eqb}
use lib.ListN.{length, get_or}
use Rattle.shelf.specs.Stock.{Stock, ahead, behind, joined}
use Rattle.build.specs.Plan.{mark_row, mark_rows}
use Rattle.build.specs.Rows.{joined_marks, all_bytes, all_count}
use Rattle.build.specs.Bytes.{used_rows}
use Rattle.build.proofs.Joined.{mark-in-first, mark-in-second, used-joined, bytes-joined, count-joined}
use Rattle.mainfile.specs.Set.{Set}
use Rattle.mainfile.specs.Rows.{kind_stock, set_stock}
use Rattle.mainfile_source.specs.Rows.{rows_ahead, behind_by}
use Rattle.build_bits.proofs.Marks.{bits-long}
use Rattle.mainfile_mark.specs.Marks.{five_marks, kind_marks, set_marks, set_rows, InFiles}

-- behind the rows of two, one after the other
behind-both : (a : Stock) (n row : ℕ) → behind_by (ahead a + n) row ≡ behind a (behind_by n row)
behind-both a n row = by-test (eqb row 0) refl
  where
    by-test : (t : Bool) → eqb row 0 ≡ t → cond t 0 (ahead a + n + row) ≡ behind a (cond t 0 (n + row))
    by-test true e = refl
    by-test false e =
        rw (ne_eqb (n + row) 0 (λ z. eqb-false row 0 e (omega arith)))
        (let sum : ahead a + n + row ≡ ahead a + (n + row) = omega arith in sum)

module _ (s : Set) (m₁ m₂ m₃ m₄ m₅ : List ℕ) where
  abbrev k₁ : Stock
  k₁ = kind_stock s 1

  abbrev k₂ : Stock
  k₂ = kind_stock s 2

  abbrev k₃ : Stock
  k₃ = kind_stock s 3

  abbrev k₄ : Stock
  k₄ = kind_stock s 4

  abbrev k₅ : Stock
  k₅ = kind_stock s 5

  abbrev from₂ : Stock
  from₂ = joined k₂ (joined k₃ (joined k₄ k₅))

  abbrev from₃ : Stock
  from₃ = joined k₃ (joined k₄ k₅)

  abbrev from₄ : Stock
  from₄ = joined k₄ k₅

  abbrev marks₂ : List ℕ
  marks₂ = joined_marks m₂ (joined_marks m₃ (joined_marks m₄ m₅))

  abbrev marks₃ : List ℕ
  marks₃ = joined_marks m₃ (joined_marks m₄ m₅)

  abbrev marks₄ : List ℕ
  marks₄ = joined_marks m₄ m₅

  abbrev all : List ℕ
  all = five_marks m₁ m₂ m₃ m₄ m₅

  -- as many marks as records up to the last, and each file has one
  module _ (l₁ : length m₁ ≡ k₁.last) (l₂ : length m₂ ≡ k₂.last) (l₃ : length m₃ ≡ k₃.last) (l₄ : length m₄ ≡ k₄.last)
      (e₁ : 1 ≤ k₁.last) (e₂ : 1 ≤ k₂.last) (e₃ : 1 ≤ k₃.last) (e₄ : 1 ≤ k₄.last) (row : ℕ) where
    pub mark-1 : row < k₁.last → mark_row row all ≡ five_marks (mark_row row m₁) m₂ m₃ m₄ m₅
    mark-1 h = mark-in-first k₁ from₂ m₁ marks₂ l₁ e₁ row h

    pub mark-2 : row < k₂.last → mark_row (behind_by (rows_ahead s 2) row) all ≡ five_marks m₁ (mark_row row m₂) m₃ m₄ m₅
    mark-2 h =
        mark-in-second k₁ from₂ m₁ marks₂ l₁ e₁ row
        ∙ ap (joined_marks m₁) (mark-in-first k₂ from₃ m₂ marks₃ l₂ e₂ row h)

    pub mark-3 : row < k₃.last → mark_row (behind_by (rows_ahead s 3) row) all ≡ five_marks m₁ m₂ (mark_row row m₃) m₄ m₅
    mark-3 h =
        ap (λ r. mark_row r all) (behind-both k₁ (ahead k₂) row)
        ∙ (mark-in-second k₁ from₂ m₁ marks₂ l₁ e₁ (behind k₂ row)
        ∙ ap (joined_marks m₁)
        (mark-in-second k₂ from₃ m₂ marks₃ l₂ e₂ row
        ∙ ap (joined_marks m₂) (mark-in-first k₃ from₄ m₃ marks₄ l₃ e₃ row h)))

    pub mark-4 : row < k₄.last → mark_row (behind_by (rows_ahead s 4) row) all ≡ five_marks m₁ m₂ m₃ (mark_row row m₄) m₅
    mark-4 h =
        let sum : rows_ahead s 4 ≡ ahead k₁ + (ahead k₂ + ahead k₃) = omega arith in
        ap (λ n. mark_row (behind_by n row) all) sum
        ∙ (ap (λ r. mark_row r all) (behind-both k₁ (ahead k₂ + ahead k₃) row ∙ ap (behind k₁) (behind-both k₂ (ahead k₃) row))
        ∙ (mark-in-second k₁ from₂ m₁ marks₂ l₁ e₁ (behind k₂ (behind k₃ row))
        ∙ ap (joined_marks m₁)
        (mark-in-second k₂ from₃ m₂ marks₃ l₂ e₂ (behind k₃ row)
        ∙ ap (joined_marks m₂)
        (mark-in-second k₃ from₄ m₃ marks₄ l₃ e₃ row ∙ ap (joined_marks m₃) (mark-in-first k₄ k₅ m₄ m₅ l₄ e₄ row h)))))

    pub mark-5 : mark_row (behind_by (rows_ahead s 5) row) all ≡ five_marks m₁ m₂ m₃ m₄ (mark_row row m₅)
    mark-5 =
        let sum : rows_ahead s 5 ≡ ahead k₁ + (ahead k₂ + (ahead k₃ + ahead k₄)) = omega arith in
        ap (λ n. mark_row (behind_by n row) all) sum
        ∙ (ap (λ r. mark_row r all)
        (behind-both k₁ (ahead k₂ + (ahead k₃ + ahead k₄)) row
        ∙ ap (behind k₁)
        (behind-both k₂ (ahead k₃ + ahead k₄) row ∙ ap (behind k₂) (behind-both k₃ (ahead k₄) row)))
        ∙ (mark-in-second k₁ from₂ m₁ marks₂ l₁ e₁ (behind k₂ (behind k₃ (behind k₄ row)))
        ∙ ap (joined_marks m₁)
        (mark-in-second k₂ from₃ m₂ marks₃ l₂ e₂ (behind k₃ (behind k₄ row))
        ∙ ap (joined_marks m₂)
        (mark-in-second k₃ from₄ m₃ marks₄ l₃ e₃ (behind k₄ row)
        ∙ ap (joined_marks m₃) (mark-in-second k₄ k₅ m₄ m₅ l₄ e₄ row)))))

  module _ (l₁ : length m₁ ≡ k₁.last) (l₂ : length m₂ ≡ k₂.last) (l₃ : length m₃ ≡ k₃.last) (l₄ : length m₄ ≡ k₄.last)
      (e₁ : 1 ≤ k₁.last) (e₂ : 1 ≤ k₂.last) (e₃ : 1 ≤ k₃.last) (e₄ : 1 ≤ k₄.last) (e₅ : 1 ≤ k₅.last) where
    -- the marked rows of the set: of each file in turn
    pub set-used : used_rows (set_stock s) all
        ≡ used_rows k₁ m₁ ++ (used_rows k₂ m₂ ++ (used_rows k₃ m₃ ++ (used_rows k₄ m₄ ++ used_rows k₅ m₅)))
    unfolding set_stock
    set-used =
        used-joined k₁ from₂ m₁ marks₂ l₁ e₁ (omega (arith, e₅))
        ∙ ap (used_rows k₁ m₁ ++◌)
        (used-joined k₂ from₃ m₂ marks₃ l₂ e₂ (omega (arith, e₅))
        ∙ ap (used_rows k₂ m₂ ++◌)
        (used-joined k₃ from₄ m₃ marks₄ l₃ e₃ (omega (arith, e₅))
        ∙ ap (used_rows k₃ m₃ ++◌) (used-joined k₄ k₅ m₄ m₅ l₄ e₄ e₅)))

    pub set-bytes : all_bytes (set_stock s) all
        ≡ all_bytes k₁ m₁ + (all_bytes k₂ m₂ + (all_bytes k₃ m₃ + (all_bytes k₄ m₄ + all_bytes k₅ m₅)))
    unfolding set_stock
    set-bytes =
        bytes-joined k₁ from₂ m₁ marks₂ l₁ e₁ (omega (arith, e₅))
        ∙ ap (all_bytes k₁ m₁ +◌)
        (bytes-joined k₂ from₃ m₂ marks₃ l₂ e₂ (omega (arith, e₅))
        ∙ ap (all_bytes k₂ m₂ +◌)
        (bytes-joined k₃ from₄ m₃ marks₄ l₃ e₃ (omega (arith, e₅))
        ∙ ap (all_bytes k₃ m₃ +◌) (bytes-joined k₄ k₅ m₄ m₅ l₄ e₄ e₅)))

    pub set-count : all_count (set_stock s) all
        ≡ all_count k₁ m₁ + (all_count k₂ m₂ + (all_count k₃ m₃ + (all_count k₄ m₄ + all_count k₅ m₅)))
    unfolding set_stock
    set-count =
        count-joined k₁ from₂ m₁ marks₂ l₁ e₁ (omega (arith, e₅))
        ∙ ap (all_count k₁ m₁ +◌)
        (count-joined k₂ from₃ m₂ marks₃ l₂ e₂ (omega (arith, e₅))
        ∙ ap (all_count k₂ m₂ +◌)
        (count-joined k₃ from₄ m₃ marks₄ l₃ e₃ (omega (arith, e₅))
        ∙ ap (all_count k₃ m₃ +◌) (count-joined k₄ k₅ m₄ m₅ l₄ e₄ e₅)))

-- ---- the same by bits

module _ (s : Set) (rows : List ℕ) (there : InFiles s rows) where
  abbrev r : ℕ → ℕ
  r i = get_or rows i 0

  -- a row's bit set in its file is the row marked among all
  module _ (b₁ b₂ b₃ b₄ b₅ : List ℕ) where
    abbrev whole : List ℕ
    whole = set_marks s b₁ b₂ b₃ b₄ b₅

    long : (kind : ℕ) (bits : List ℕ) → length (kind_marks s kind bits) ≡ (kind_stock s kind).last
    long kind bits = bits-long bits (kind_stock s kind).last

    bits-1 : (row : ℕ) (c : List ℕ) → row < (kind_stock s 1).last → kind_marks s 1 c ≡ mark_row row (kind_marks s 1 b₁)
        → mark_row row whole ≡ set_marks s c b₂ b₃ b₄ b₅
    unfolding set_marks
    bits-1 row c h e =
        mark-1 s (kind_marks s 1 b₁) (kind_marks s 2 b₂) (kind_marks s 3 b₃) (kind_marks s 4 b₄) (kind_marks s 5 b₅) (long 1 b₁)
        (long 2 b₂) (long 3 b₃) (long 4 b₄) (omega (arith, there.locality)) (omega (arith, there.thoroughfare))
        (omega (arith, there.descriptor)) (omega (arith, there.building)) row h
        ∙ ap (λ m. five_marks m (kind_marks s 2 b₂) (kind_marks s 3 b₃) (kind_marks s 4 b₄) (kind_marks s 5 b₅)) (sym e)

    bits-2 : (row : ℕ) (c : List ℕ) → row < (kind_stock s 2).last → kind_marks s 2 c ≡ mark_row row (kind_marks s 2 b₂)
        → mark_row (behind_by (rows_ahead s 2) row) whole ≡ set_marks s b₁ c b₃ b₄ b₅
    unfolding set_marks
    bits-2 row c h e =
        mark-2 s (kind_marks s 1 b₁) (kind_marks s 2 b₂) (kind_marks s 3 b₃) (kind_marks s 4 b₄) (kind_marks s 5 b₅) (long 1 b₁)
        (long 2 b₂) (long 3 b₃) (long 4 b₄) (omega (arith, there.locality)) (omega (arith, there.thoroughfare))
        (omega (arith, there.descriptor)) (omega (arith, there.building)) row h
        ∙ ap (λ m. five_marks (kind_marks s 1 b₁) m (kind_marks s 3 b₃) (kind_marks s 4 b₄) (kind_marks s 5 b₅)) (sym e)

    bits-3 : (row : ℕ) (c : List ℕ) → row < (kind_stock s 3).last → kind_marks s 3 c ≡ mark_row row (kind_marks s 3 b₃)
        → mark_row (behind_by (rows_ahead s 3) row) whole ≡ set_marks s b₁ b₂ c b₄ b₅
    unfolding set_marks
    bits-3 row c h e =
        mark-3 s (kind_marks s 1 b₁) (kind_marks s 2 b₂) (kind_marks s 3 b₃) (kind_marks s 4 b₄) (kind_marks s 5 b₅) (long 1 b₁)
        (long 2 b₂) (long 3 b₃) (long 4 b₄) (omega (arith, there.locality)) (omega (arith, there.thoroughfare))
        (omega (arith, there.descriptor)) (omega (arith, there.building)) row h
        ∙ ap (λ m. five_marks (kind_marks s 1 b₁) (kind_marks s 2 b₂) m (kind_marks s 4 b₄) (kind_marks s 5 b₅)) (sym e)

    bits-4 : (row : ℕ) (c : List ℕ) → row < (kind_stock s 4).last → kind_marks s 4 c ≡ mark_row row (kind_marks s 4 b₄)
        → mark_row (behind_by (rows_ahead s 4) row) whole ≡ set_marks s b₁ b₂ b₃ c b₅
    unfolding set_marks
    bits-4 row c h e =
        mark-4 s (kind_marks s 1 b₁) (kind_marks s 2 b₂) (kind_marks s 3 b₃) (kind_marks s 4 b₄) (kind_marks s 5 b₅) (long 1 b₁)
        (long 2 b₂) (long 3 b₃) (long 4 b₄) (omega (arith, there.locality)) (omega (arith, there.thoroughfare))
        (omega (arith, there.descriptor)) (omega (arith, there.building)) row h
        ∙ ap (λ m. five_marks (kind_marks s 1 b₁) (kind_marks s 2 b₂) (kind_marks s 3 b₃) m (kind_marks s 5 b₅)) (sym e)

    bits-5 : (row : ℕ) (c : List ℕ) → kind_marks s 5 c ≡ mark_row row (kind_marks s 5 b₅)
        → mark_row (behind_by (rows_ahead s 5) row) whole ≡ set_marks s b₁ b₂ b₃ b₄ c
    unfolding set_marks
    bits-5 row c e =
        mark-5 s (kind_marks s 1 b₁) (kind_marks s 2 b₂) (kind_marks s 3 b₃) (kind_marks s 4 b₄) (kind_marks s 5 b₅) (long 1 b₁)
        (long 2 b₂) (long 3 b₃) (long 4 b₄) (omega (arith, there.locality)) (omega (arith, there.thoroughfare))
        (omega (arith, there.descriptor)) (omega (arith, there.building)) row
        ∙ ap (λ m. five_marks (kind_marks s 1 b₁) (kind_marks s 2 b₂) (kind_marks s 3 b₃) (kind_marks s 4 b₄) m) (sym e)

  -- the seven rows of a delivery point, one after the other
  pub rows-marked : (b₁ b₂ b₃ b₄ b₅ c₁ c₂ c₃ d₂ d₃ c₄ c₅ : List ℕ)
      → kind_marks s 1 c₁ ≡ mark_row (r 0) (kind_marks s 1 b₁)
      → kind_marks s 2 c₂ ≡ mark_row (r 1) (kind_marks s 2 b₂)
      → kind_marks s 3 c₃ ≡ mark_row (r 2) (kind_marks s 3 b₃)
      → kind_marks s 2 d₂ ≡ mark_row (r 3) (kind_marks s 2 c₂)
      → kind_marks s 3 d₃ ≡ mark_row (r 4) (kind_marks s 3 c₃)
      → kind_marks s 4 c₄ ≡ mark_row (r 5) (kind_marks s 4 b₄)
      → kind_marks s 5 c₅ ≡ mark_row (r 6) (kind_marks s 5 b₅)
      → set_marks s c₁ d₂ d₃ c₄ c₅ ≡ mark_rows (set_rows s rows) (set_marks s b₁ b₂ b₃ b₄ b₅)
  rows-marked b₁ b₂ b₃ b₄ b₅ c₁ c₂ c₃ d₂ d₃ c₄ c₅ e₀ e₁ e₂ e₃ e₄ e₅ e₆ =
      let m₂ : List ℕ → List ℕ = mark_row (behind_by (rows_ahead s 2) (r 1)) in
      let m₃ : List ℕ → List ℕ = mark_row (behind_by (rows_ahead s 3) (r 2)) in
      let n₂ : List ℕ → List ℕ = mark_row (behind_by (rows_ahead s 2) (r 3)) in
      let n₃ : List ℕ → List ℕ = mark_row (behind_by (rows_ahead s 3) (r 4)) in
      let m₄ : List ℕ → List ℕ = mark_row (behind_by (rows_ahead s 4) (r 5)) in
      let m₅ : List ℕ → List ℕ = mark_row (behind_by (rows_ahead s 5) (r 6)) in
      sym
      (ap (λ m. m₅ (m₄ (n₃ (n₂ (m₃ (m₂ m)))))) (bits-1 b₁ b₂ b₃ b₄ b₅ (r 0) c₁ there.locality e₀)
      ∙ (ap (λ m. m₅ (m₄ (n₃ (n₂ (m₃ m))))) (bits-2 c₁ b₂ b₃ b₄ b₅ (r 1) c₂ there.thoroughfare e₁)
      ∙ (ap (λ m. m₅ (m₄ (n₃ (n₂ m)))) (bits-3 c₁ c₂ b₃ b₄ b₅ (r 2) c₃ there.descriptor e₂)
      ∙ (ap (λ m. m₅ (m₄ (n₃ m))) (bits-2 c₁ c₂ c₃ b₄ b₅ (r 3) d₂ there.dependent e₃)
      ∙ (ap (λ m. m₅ (m₄ m)) (bits-3 c₁ d₂ c₃ b₄ b₅ (r 4) d₃ there.second e₄)
      ∙ (ap (λ m. m₅ m) (bits-4 c₁ d₂ d₃ b₄ b₅ (r 5) c₄ there.building e₅)
      ∙ bits-5 c₁ d₂ d₃ c₄ b₅ (r 6) c₅ e₆))))))
