-- Laws of marked rows: two lists of marks that mark the same, and the rows of two stocks as one.
-- Assumes nothing.
use Prim.Native.Nat.{ℕ, zero, suc, ◌+◌, ◌-◌, ◌≤◌, ◌<◌}
use mathlib.Core.Path.{◌≡◌, refl, sym, ap, ap₂, ◌∙◌}
use mathlib.Core.Bool.{Bool, true, false, cond, not}
use mathlib.Core.List.{List, [], ◌∷◌, ◌++◌, append_assoc}
use native.Mathlib.Omega.{arith}
use native.Mathlib.Nat.{zero-add, add-zero, suc-add}
use borrow.Author.Tests.{lt-ltb, le-ltb, ne_eqb, eqb-false}
use lib.Dec.{eqb}
use lib.ListN.{length, drop, get_or, set, get_or-append, length-append, length-drop}
use lib.Seq.{get_or-append-add, get_or-drop, set-append_left, drop-set-add}
use Rattle.shelf.specs.Stock.{Stock, ahead, behind, joined}
use Rattle.build.specs.Plan.{mark_row}
use Rattle.build.specs.Rows.{row_bytes_at, is_marked, size_at, bytes_to, count_to, all_bytes, all_count, rows_from, joined_marks}
use Rattle.build.specs.Placed.{start_of}
use Rattle.build.specs.Bytes.{used_rows}

-- ---- two lists of marks that mark the same rows

abbrev pub SameMarks : Stock → List ℕ → List ℕ → Type 0
SameMarks st marks others = (i : ℕ) → 1 ≤ i → i < st.last → is_marked marks i ≡ is_marked others i

module _ (st : Stock) (marks others : List ℕ) (same : SameMarks st marks others) where
  pub bytes-as : (n : ℕ) → n ≤ ahead st → bytes_to st marks n ≡ bytes_to st others n
  bytes-as zero h = refl
  bytes-as (suc n) h =
      ap₂ ◌+◌ (bytes-as n (omega arith))
      (ap (λ t. cond t (length (row_bytes_at st (suc n))) 0) (same (suc n) (omega arith) (omega arith)))

  pub count-as : (n : ℕ) → n ≤ ahead st → count_to marks n ≡ count_to others n
  count-as zero h = refl
  count-as (suc n) h =
      ap₂ ◌+◌ (count-as n (omega arith)) (ap (λ t. cond t 1 0) (same (suc n) (omega arith) (omega arith)))

  rows_as : (k i : ℕ) → 1 ≤ i → i + k ≤ suc (ahead st) → rows_from st marks k i ≡ rows_from st others k i
  rows_as zero i p h = refl
  rows_as (suc k) i p h =
      ap₂ ◌++◌ (ap (λ t. cond t (row_bytes_at st i) []) (same i p (omega arith))) (rows_as k (suc i) (omega arith) (omega arith))

  pub used-as : used_rows st marks ≡ used_rows st others
  used-as = rows_as (ahead st) 1 (omega arith) (omega arith)

-- ---- two stocks as one

rows_split : (st : Stock) (marks : List ℕ) (k n i : ℕ)
    → rows_from st marks (k + n) i ≡ rows_from st marks k i ++ rows_from st marks n (i + k)
rows_split st marks zero n i = rw (zero-add n, add-zero i)
rows_split st marks (suc k) n i =
    rw (let more : suc k + n ≡ suc (k + n) = omega arith in more)
    (ap (λ rows. cond (is_marked marks i) (row_bytes_at st i) [] ++ rows)
    (rows_split st marks k n (suc i)
    ∙ ap (λ j. rows_from st marks k (suc i) ++ rows_from st marks n j) (omega arith))
    ∙ sym (append_assoc (cond (is_marked marks i) (row_bytes_at st i) []) (rows_from st marks k (suc i))
    (rows_from st marks n (i + suc k))))

set_append_right : (xs ys : List ℕ) (i v : ℕ) → set (xs ++ ys) (length xs + i) v ≡ xs ++ set ys i v
set_append_right [] ys i v = rw (zero-add i)
set_append_right (x ∷ xs) ys i v = rw (suc-add (length xs) i) (ap (x ∷◌) (set_append_right xs ys i v))

module _ (a b : Stock) (first second : List ℕ) (long : length first ≡ a.last) (some : 1 ≤ a.last) where
  abbrev both : Stock
  both = joined a b

  abbrev marks : List ℕ
  marks = joined_marks first second

  row_first : (i : ℕ) → i < a.last → row_bytes_at both i ≡ row_bytes_at a i
  unfolding row_bytes_at
  row_first i h = simp (lt-ltb i a.last h)

  row-second : (i : ℕ) → 1 ≤ i → row_bytes_at both (ahead a + i) ≡ row_bytes_at b i
  unfolding row_bytes_at
  row-second i p =
      simp (le-ltb (ahead a + i) a.last (omega arith), (let back : ahead a + i - ahead a ≡ i = omega arith in back))

  mark-first : (i : ℕ) → i < a.last → is_marked marks i ≡ is_marked first i
  mark-first i h = ap (λ n. not (eqb n 0)) (get_or-append first (drop 1 second) 0 i (omega arith))

  mark-second : (i : ℕ) → 1 ≤ i → is_marked marks (ahead a + i) ≡ is_marked second i
  mark-second i p =
      ap (λ n. not (eqb n 0))
      (ap (λ j. get_or marks j 0) (let place : ahead a + i ≡ length first + (i - 1) = omega arith in place)
      ∙ (get_or-append-add first (drop 1 second) (i - 1) 0
      ∙ (get_or-drop 1 second (i - 1) 0 ∙ ap (λ j. get_or second j 0) (let back : 1 + (i - 1) ≡ i = omega arith in back))))

  rows-first : (k i : ℕ) → i + k ≤ a.last → rows_from both marks k i ≡ rows_from a first k i
  rows-first zero i h = refl
  rows-first (suc k) i h =
      ap₂ ◌++◌ (ap₂ (λ t row. cond t row []) (mark-first i (omega arith)) (row_first i (omega arith)))
      (rows-first k (suc i) (omega arith))

  rows-second : (k i : ℕ) → 1 ≤ i → rows_from both marks k (ahead a + i) ≡ rows_from b second k i
  rows-second zero i p = refl
  rows-second (suc k) i p =
      ap₂ ◌++◌ (ap₂ (λ t row. cond t row []) (mark-second i p) (row-second i p))
      (ap (rows_from both marks k) (let on : suc (ahead a + i) ≡ ahead a + suc i = omega arith in on)
      ∙ rows-second k (suc i) (omega arith))

  -- the bytes of the marked rows among the first's, and behind them those of the second's
  pub bytes-first : (n : ℕ) → n ≤ ahead a → bytes_to both marks n ≡ bytes_to a first n
  bytes-first zero h = refl
  bytes-first (suc n) h =
      ap₂ ◌+◌ (bytes-first n (omega arith))
      (ap₂ (λ t row. cond t (length row) 0) (mark-first (suc n) (omega arith)) (row_first (suc n) (omega arith)))

  pub bytes-second : (n : ℕ) → bytes_to both marks (ahead a + n) ≡ all_bytes a first + bytes_to b second n
  bytes-second zero = rw (add-zero (ahead a)) (bytes-first (ahead a) (omega arith) ∙ sym (add-zero (all_bytes a first)))
  bytes-second (suc n) =
      rw (let on : ahead a + suc n ≡ suc (ahead a + n) = omega arith in on)
      (omega (
        arith,
        bytes-second n,
        ap₂ (λ t row. cond t (length row) 0)
            (ap (is_marked marks) (let on : suc (ahead a + n) ≡ ahead a + suc n = omega arith in on)
            ∙ mark-second (suc n) (omega arith))
            (ap (row_bytes_at both) (let on : suc (ahead a + n) ≡ ahead a + suc n = omega arith in on)
            ∙ row-second (suc n) (omega arith)),
      ))

  pub count-first : (n : ℕ) → n ≤ ahead a → count_to marks n ≡ count_to first n
  count-first zero h = refl
  count-first (suc n) h =
      ap₂ ◌+◌ (count-first n (omega arith)) (ap (λ t. cond t 1 0) (mark-first (suc n) (omega arith)))

  pub count-second : (n : ℕ) → count_to marks (ahead a + n) ≡ count_to first (ahead a) + count_to second n
  count-second zero = rw (add-zero (ahead a)) (count-first (ahead a) (omega arith) ∙ sym (add-zero (count_to first (ahead a))))
  count-second (suc n) =
      rw (let on : ahead a + suc n ≡ suc (ahead a + n) = omega arith in on)
      (omega (
        arith,
        count-second n,
        ap {B = ℕ} (λ t. cond t 1 0)
            (ap (is_marked marks) (let on : suc (ahead a + n) ≡ ahead a + suc n = omega arith in on)
            ∙ mark-second (suc n) (omega arith)),
      ))

  -- all of them
  module _ (more : 1 ≤ b.last) where
    last_row : (joined a b).last - 1 ≡ ahead a + ahead b
    last_row = omega arith

    pub used-joined : used_rows both marks ≡ used_rows a first ++ used_rows b second
    used-joined =
        ap (λ k. rows_from both marks k 1) last_row
        ∙ (rows_split both marks (ahead a) (ahead b) 1
        ∙ ap₂ ◌++◌ (rows-first (ahead a) 1 (omega arith))
        (ap (rows_from both marks (ahead b)) (let on : 1 + ahead a ≡ ahead a + 1 = omega arith in on)
        ∙ rows-second (ahead b) 1 (omega arith)))

    pub bytes-joined : all_bytes both marks ≡ all_bytes a first + all_bytes b second
    bytes-joined = ap (bytes_to both marks) last_row ∙ bytes-second (ahead b)

    pub count-joined : all_count both marks ≡ all_count a first + all_count b second
    count-joined = ap (count_to marks) last_row ∙ count-second (ahead b)

  pub marks-long : 1 ≤ length second → length second ≡ b.last → length marks ≡ (joined a b).last
  marks-long p e = omega (arith, length-append first (drop 1 second), length-drop 1 second, e)

  -- a row of one of them marked
  pub mark-in-first : (row : ℕ) → row < a.last → mark_row row marks ≡ joined_marks (mark_row row first) second
  mark-in-first row h = by-test (eqb row 0)
    where
      by-test : (t : Bool) → cond t marks (set marks row 1) ≡ joined_marks (cond t first (set first row 1)) second
      by-test true = refl
      by-test false = set-append_left first (drop 1 second) row 1 (omega arith)

  pub mark-in-second : (row : ℕ) → mark_row (behind a row) marks ≡ joined_marks first (mark_row row second)
  mark-in-second row = by-test (eqb row 0) refl
    where
      by-test : (t : Bool) → eqb row 0 ≡ t
          → mark_row (cond t 0 (ahead a + row)) marks ≡ joined_marks first (cond t second (set second row 1))
      by-test true e = refl
      by-test false e =
          let n = eqb-false row 0 e in
          let place : ahead a + row ≡ length first + (row - 1) = omega (arith, n) in
          let back : 1 + (row - 1) ≡ row = omega (arith, n) in
          rw (ne_eqb (ahead a + row) 0 (λ z. n (omega arith)))
          (ap (λ i. set marks i 1) place
          ∙ (set_append_right first (drop 1 second) (row - 1) 1
          ∙ (ap (first ++◌) (sym (drop-set-add 1 second (row - 1) 1)) ∙ ap (λ i. first ++ drop 1 (set second i 1)) back)))

  -- where a marked row starts, plus 1: one of the second's behind all of the first's
  pub start_first : (i : ℕ) → i < a.last → start_of both marks i ≡ start_of a first i
  start_first i h =
      ap₂ (λ t n. cond t (suc n) 0) (mark-first i h) (bytes-first (i - 1) (omega arith))

  pub start-second : (i : ℕ) → 1 ≤ i
      → start_of both marks (ahead a + i) ≡ cond (is_marked second i) (suc (all_bytes a first + bytes_to b second (i - 1))) 0
  start-second i p =
      ap₂ (λ t n. cond t (suc n) 0) (mark-second i p)
      (ap (bytes_to both marks) (let back : ahead a + i - 1 ≡ ahead a + (i - 1) = omega arith in back) ∙ bytes-second (i - 1))
