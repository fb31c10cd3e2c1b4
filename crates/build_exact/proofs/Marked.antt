-- Which rows a builder marks: those that a delivery point refers to. Where rows stand shows the same.
-- Assumes nothing.
use Prim.Native.Nat.{ℕ, zero, suc, ◌+◌, ◌-◌, ◌≤◌, ◌<◌}
use mathlib.Core.Path.{◌≡◌, refl, sym, ap, ◌∙◌}
use mathlib.Core.Bool.{Bool, true, false, cond, not, ◌||◌}
use mathlib.Core.List.{List, [], ◌∷◌}
use native.Mathlib.Omega.{arith}
use borrow.Author.Tests.{eq-eqb, ne_eqb, eqb-true, eqb-false}
use lib.Dec.{eqb}
use lib.ListN.{length, get_or, set, length-set}
use lib.Seq.{get_or-set_same, get_or-set_other}
use Rattle.field.specs.Test.{elem}
use Rattle.field.proofs.Tests.{or-false}
use Rattle.shelf.specs.Stock.{Stock}
use Rattle.build.specs.Plan.{Packed, rows_of, refers_to, mark_row, mark_rows, mark_all}
use Rattle.build.specs.Rows.{row_bytes_at, is_marked, bytes_to, count_to}
use Rattle.build.specs.Placed.{Placed}

-- ---- marks

row-length : (row : ℕ) (marks : List ℕ) → length (mark_row row marks) ≡ length marks
row-length row marks = by-test (eqb row 0)
  where
    by-test : (t : Bool) → length (cond t marks (set marks row 1)) ≡ length marks
    by-test true = refl
    by-test false = length-set marks row 1

rows-length : (rows marks : List ℕ) → length (mark_rows rows marks) ≡ length marks
rows-length [] marks = refl
rows-length (row ∷ rows) marks = rows-length rows (mark_row row marks) ∙ row-length row marks

-- marking keeps how many marks there are
pub all-length : (st : Stock) (ds : List Packed) (marks : List ℕ) → length (mark_all st ds marks) ≡ length marks
all-length st [] marks = refl
all-length st (d ∷ ds) marks =
    all-length st ds (mark_rows (rows_of st d.point) marks) ∙ rows-length (rows_of st d.point) marks

or_turned : (r s t : Bool) → r || (s || t) ≡ (s || r) || t
or_turned true true t = refl
or_turned true false t = refl
or_turned false true t = refl
or_turned false false t = refl

module _ (i : ℕ) (low : 1 ≤ i) where
  mark-one : (row : ℕ) (marks : List ℕ) → i < length marks
      → is_marked (mark_row row marks) i ≡ eqb i row || is_marked marks i
  mark-one row marks h = by_tests (eqb row 0) (eqb i row) refl refl
    where
      by_tests : (t u : Bool) → eqb row 0 ≡ t → eqb i row ≡ u
          → is_marked (cond t marks (set marks row 1)) i ≡ u || is_marked marks i
      by_tests true true p q = absurd (omega (arith, eqb-true row 0 p, eqb-true i row q))
      by_tests true false p q = refl
      by_tests false true p q =
          rw (sym (eqb-true i row q), get_or-set_same marks i 1 0 h)
      by_tests false false p q = rw (get_or-set_other marks row i 1 0 (eqb-false i row q))

  mark-all : (rows marks : List ℕ) → i < length marks
      → is_marked (mark_rows rows marks) i ≡ elem i rows || is_marked marks i
  mark-all [] marks h = refl
  mark-all (row ∷ rows) marks h =
      mark-all rows (mark_row row marks) (omega (arith, row-length row marks))
      ∙ (ap (λ b. elem i rows || b) (mark-one row marks h)
      ∙ or_turned (elem i rows) (eqb i row) (is_marked marks i))

  mark-points : (st : Stock) (ds : List Packed) (marks : List ℕ) → i < length marks
      → is_marked (mark_all st ds marks) i ≡ refers_to st ds i || is_marked marks i
  mark-points st [] marks h = refl
  mark-points st (d ∷ ds) marks h =
      let rows = rows_of st d.point in
      mark-points st ds (mark_rows rows marks) (omega (arith, rows-length rows marks))
      ∙ (ap (λ b. refers_to st ds i || b) (mark-all rows marks h)
      ∙ or_turned (refers_to st ds i) (elem i rows) (is_marked marks i))

  -- what is marked where nothing was
  pub marked-exactly : (st : Stock) (ds : List Packed) (fresh : List ℕ) → i < length fresh → get_or fresh i 0 ≡ 0
      → is_marked (mark_all st ds fresh) i ≡ refers_to st ds i
  marked-exactly st ds fresh h e =
      mark-points st ds fresh h
      ∙ (ap (λ b. refers_to st ds i || not b) (eq-eqb (get_or fresh i 0) 0 e) ∙ or-false (refers_to st ds i))

-- ---- starts

module _ (st : Stock) (marks starts : List ℕ) (p : Placed st marks starts) where
  module _ (i : ℕ) (low : 1 ≤ i) (high : i < st.last) where
    -- a row has a start where it is marked
    pub start-marked : is_marked starts i ≡ is_marked marks i
    start-marked = ap (λ n. not (eqb n 0)) (p.each i low high) ∙ by-test (is_marked marks i) (bytes_to st marks (i - 1))
      where
        by-test : (t : Bool) (n : ℕ) → not (eqb (cond t (suc n) 0) 0) ≡ t
        by-test true n = rw (ne_eqb (suc n) 0 (λ z. omega arith))
        by-test false n = refl

  pub bytes_same : (n : ℕ) → n ≤ st.last - 1 → bytes_to st starts n ≡ bytes_to st marks n
  bytes_same zero h = refl
  bytes_same (suc n) h =
      rw (start-marked (suc n) (omega arith) (omega arith))
      (ap (λ m. m + cond (is_marked marks (suc n)) (length (row_bytes_at st (suc n))) 0) (bytes_same n (omega arith)))

  pub count_same : (n : ℕ) → n ≤ st.last - 1 → count_to starts n ≡ count_to marks n
  count_same zero h = refl
  count_same (suc n) h =
      rw (start-marked (suc n) (omega arith) (omega arith))
      (ap (λ m. m + cond (is_marked marks (suc n)) 1 0) (count_same n (omega arith)))

  -- it stands behind those before it that have one
  pub start_is : (i : ℕ) → 1 ≤ i → i < st.last → is_marked starts i ≡ true
      → get_or starts i 0 - 1 ≡ bytes_to st starts (i - 1)
  start_is i low high e =
      let here : get_or starts i 0 ≡ suc (bytes_to st marks (i - 1)) =
      p.each i low high
      ∙ ap (λ t. cond t (suc (bytes_to st marks (i - 1))) 0) (sym (start-marked i low high) ∙ e) in
      omega (arith, here, bytes_same (i - 1) (omega arith))
