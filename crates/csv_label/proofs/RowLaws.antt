-- Laws of the rows of a file by the places at which they begin.
-- Assumes nothing.
use Prim.Native.Nat.{ℕ, zero, suc, ◌+◌, ◌*◌, ◌/◌, ◌≤◌, ◌<◌}
use mathlib.Core.Path.{◌≡◌, refl, sym, ap, ◌∙◌}
use mathlib.Core.Bool.{Bool, true, false, cond, not, ◌&&◌, true≢false}
use mathlib.Core.List.{List, [], ◌∷◌}
use mathlib.Core.Option.{none, some}
use native.Mathlib.Omega.{arith}
use native.Mathlib.Numerals.{add-one}
use native.Mathlib.Nat.{zero-mul, suc-mul}
use borrow.Author.Tests.{eqb-true, not-true}
use lib.Dec.{eqb}
use lib.ListN.{length, take, drop, get_or, length-drop, drop_of_length-le}
use lib.Seq.{drop-cons, drop-drop}
use Rattle.std.specs.Simd.{first_chunks}
use Rattle.field.specs.Test.{every}
use Rattle.field.proofs.Tests.{and_left, and_right}
use Rattle.refusal.specs.declared.Reason.TheVariants.{BadRow, Uncarried}
use Rattle.refusal.proofs.Answers.{refused-value}
use Rattle.refusal.proofs.Verdicts.{bad-fine, both-fine}
use Rattle.csv_paf.specs.File.{starts_with, row_ends, behind_row, rows_from, rows_of, row_fault, first_bad_row, row_fits, all_fit, rows_judged, judged_as, csv_judged}
use Rattle.csv_paf.specs.Ask.{kth_of}
use Rattle.csv_paf.proofs.Rows.{behind-less, rows_none, rows_next}
use Rattle.csv_label.specs.Shown.{row_from, RowPlace}
use Rattle.std.specs.Prelude.{Ok, Err}
use Rattle.refusal.specs.Verdict.{Verdict, fine}

-- ---- behind a row, byte by byte

some_byte : (s : List ℕ) → starts_with 10 s ≡ true → 1 ≤ length s
some_byte [] e = absurd (true≢false (sym e))
some_byte (x ∷ xs) e = omega arith

module _ (csv : List ℕ) (i : ℕ) where
  abbrev ends : Bool
  ends = row_ends (get_or csv i 0) (drop (i + 1) csv)

  module _ (h : i < length csv) where
    told : behind_row (drop i csv) ≡ cond ends (drop 1 (drop (i + 1) csv)) (behind_row (drop (i + 1) csv))
    told =
        ap behind_row (drop-cons csv i 0 h ∙ ap (λ (n : ℕ). get_or csv i 0 ∷ drop n csv) (sym (add-one i)))

    pub behind-step : ends ≡ false → behind_row (drop i csv) ≡ behind_row (drop (i + 1) csv)
    behind-step e = told ∙ ap (λ (t : Bool). cond t (drop 1 (drop (i + 1) csv)) (behind_row (drop (i + 1) csv))) e

    module _ (e : ends ≡ true) where
      pub behind-stop : drop (i + 2) csv ≡ behind_row (drop i csv)
      behind-stop =
          sym
          (told
          ∙ (ap (λ (t : Bool). cond t (drop 1 (drop (i + 1) csv)) (behind_row (drop (i + 1) csv))) e
          ∙ (drop-drop 1 (i + 1) csv ∙ ap (λ (n : ℕ). drop n csv) two)))
        where
          two : i + 1 + 1 ≡ i + 2
          two = omega arith

      pub stop-high : i + 2 ≤ length csv
      stop-high =
          let some = some_byte (drop (i + 1) csv) (and_right (eqb (get_or csv i 0) 13) (starts_with 10 (drop (i + 1) csv)) e) in
          omega (arith, some, length-drop (i + 1) csv)

-- past bytes of which none is a CR
none-ends : (n : ℕ) (s : List ℕ) → n ≤ length s → every (λ x. not (eqb x 13)) (take n s) ≡ true
    → behind_row s ≡ behind_row (drop n s)
none-ends zero s h e = refl
none-ends (suc n) [] h e = absurd (omega arith)
none-ends (suc n) (x ∷ xs) h e =
    ap (λ (t : Bool). cond (t && starts_with 10 xs) (drop 1 xs) (behind_row xs))
    (not-true (eqb x 13) (and_left (not (eqb x 13)) (every (λ x. not (eqb x 13)) (take n xs)) e))
    ∙ none-ends n xs (omega arith) (and_right (not (eqb x 13)) (every (λ x. not (eqb x 13)) (take n xs)) e)

pub behind-past : (csv : List ℕ) (i n : ℕ) → i + n ≤ length csv → every (λ x. not (eqb x 13)) (take n (drop i csv)) ≡ true
    → behind_row (drop i csv) ≡ behind_row (drop (i + n) csv)
behind-past csv i n h e =
    none-ends n (drop i csv) (omega (arith, length-drop i csv)) e ∙ ap behind_row (drop-drop n i csv)

-- one of some parts of a length
part-at : (n k : ℕ) (s : List ℕ) (i : ℕ) (d : List ℕ) → i < k → get_or (first_chunks n k s) i d ≡ take n (drop (i * n) s)
part-at n zero s i d h = absurd (omega arith)
part-at n (suc k) s zero d h = rw (zero-mul n) refl
part-at n (suc k) s (suc i) d h =
    let on : n + i * n ≡ suc i * n = omega (arith, suc-mul i n) in
    part-at n k (drop n s) i d (omega arith) ∙ ap (take n) (drop-drop (i * n) n s ∙ ap (λ (j : ℕ). drop j s) on)

-- past a part of sixteen bytes of which none is a CR
pub behind-part : (csv : List ℕ) (at n : ℕ) (d : List ℕ) → n < length (drop at csv) / 16
    → every (λ x. not (eqb x 13)) (get_or (first_chunks 16 (length (drop at csv) / 16) (drop at csv)) n d) ≡ true
    → behind_row (drop (at + n * 16) csv) ≡ behind_row (drop (at + (n + 1) * 16) csv)
behind-part csv at n d h passed =
    let on : at + n * 16 + 16 ≡ at + (n + 1) * 16 = omega arith in
    let here = rw (part-at 16 _ (drop at csv) n d h, drop-drop (n * 16) at csv) at passed in
    behind-past csv (at + n * 16) 16 (omega (arith, length-drop at csv)) here ∙ ap (λ (i : ℕ). behind_row (drop i csv)) on

pub behind-end : (csv : List ℕ) (i : ℕ) → length csv ≤ i → drop i csv ≡ behind_row (drop i csv)
behind-end csv i h = let e = drop_of_length-le csv {i = i} h in e ∙ sym (ap behind_row e)

-- ---- the row of a number

pub kth-none : (k : ℕ) → kth_of (rows_of []) k ≡ none
kth-none k = ap (λ (rows : List (List ℕ)). kth_of rows k) rows_none

pub kth-zero : (rows : List (List ℕ)) → kth_of rows 0 ≡ none
kth-zero [] = refl
kth-zero (row ∷ rows) = refl

-- the first row, and those behind it
pub kth-first : (bytes : List ℕ) → row_from bytes ≡ kth_of (rows_of bytes) 1
kth-first [] = sym (kth-none 1)
kth-first (x ∷ xs) = sym (ap (λ (rows : List (List ℕ)). kth_of rows 1) (rows_next x xs))

pub kth-behind : (bytes : List ℕ) (k : ℕ) → 0 < length bytes
    → kth_of (rows_of bytes) (suc (suc k)) ≡ kth_of (rows_of (behind_row bytes)) (suc k)
kth-behind [] k h = absurd (omega (arith, h))
kth-behind (x ∷ xs) k h = ap (λ (rows : List (List ℕ)). kth_of rows (suc (suc k))) (rows_next x xs)

-- ---- the row behind the one of a number is that of the next

none-some : {A : Type 0} (row : List ℕ) → none ≡ some row → A
none-some row e = let z : ◌≡◌ {A = ℕ} 0 1 = cc in absurd (omega arith)

same_some : (row other : List ℕ) → some row ≡ some other → row ≡ other
same_some row other e = cc

first-from : (most : ℕ) (bytes : List ℕ) → length bytes ≤ most → kth_of (rows_from most bytes) 1 ≡ row_from bytes
first-from zero [] h = refl
first-from zero (x ∷ xs) h = absurd (omega (arith, h))
first-from (suc most) [] h = refl
first-from (suc most) (x ∷ xs) h = refl

behind-from : (most : ℕ) (bytes row : List ℕ) (k : ℕ) → length bytes ≤ most → kth_of (rows_from most bytes) k ≡ some row
    → kth_of (rows_from most bytes) (suc k) ≡ row_from (behind_row row)
behind-from zero bytes row k h e = none-some row e
behind-from (suc most) [] row k h e = none-some row e
behind-from (suc most) (x ∷ xs) row zero h e = none-some row e
behind-from (suc most) (x ∷ xs) row (suc zero) h e =
    let less = behind-less (x ∷ xs) (omega arith) in
    first-from most (behind_row (x ∷ xs)) (omega (arith, h, less))
    ∙ ap (λ (r : List ℕ). row_from (behind_row r)) (same_some (x ∷ xs) row e)
behind-from (suc most) (x ∷ xs) row (suc (suc k)) h e =
    let less = behind-less (x ∷ xs) (omega arith) in
    behind-from most (behind_row (x ∷ xs)) row (suc k) (omega (arith, h, less)) e

row-there : (bytes : List ℕ) → 0 < length bytes → row_from bytes ≡ some bytes
row-there [] h = absurd (omega (arith, h))
row-there (x ∷ xs) h = refl

pub kth-next : (csv : List ℕ) (k place next : ℕ) → place < length csv
    → row_from (drop place csv) ≡ kth_of (rows_of csv) k
    → drop next csv ≡ behind_row (drop place csv)
    → row_from (drop next csv) ≡ kth_of (rows_of csv) (k + 1)
unfolding rows_of
kth-next csv k place next h is on =
    ap row_from on
    ∙ sym
    (ap (kth_of (rows_from (length csv) csv)) (add-one k)
    ∙ behind-from (length csv) csv (drop place csv) k (omega arith)
    (sym is ∙ row-there (drop place csv) (omega (arith, h, length-drop place csv))))

-- ---- the rows of an accepted file are good

accepted-fine : (v : Verdict) (m : ℕ) {n : ℕ} → judged_as v m ≡ Ok n → v ≡ fine
accepted-fine (Ok _) m e = refl
accepted-fine (Err why) m {n} e = absurd (refused-value 0 n why e)

fit-fine : (t : Bool) → cond t fine (Err Uncarried) ≡ fine → t ≡ true
fit-fine true e = refl
fit-fine false e = absurd (bad-fine Uncarried e)

fine-row : (rows : List (List ℕ)) (n : ℕ) (row : List ℕ) (k : ℕ) → first_bad_row n rows ≡ fine → kth_of rows k ≡ some row
    → row_fault row ≡ 0
fine-row [] n row k e is = none-some row is
fine-row (r ∷ rs) n row zero e is = none-some row is
fine-row (r ∷ rs) n row (suc zero) e is = by-test (eqb (row_fault r) 0) refl e
  where
    by-test : (t : Bool) → eqb (row_fault r) 0 ≡ t → cond t (first_bad_row (suc n) rs) (Err (BadRow n (row_fault r))) ≡ fine
        → row_fault row ≡ 0
    by-test true q f = ap row_fault (sym (same_some r row is)) ∙ eqb-true (row_fault r) 0 q
    by-test false q f = absurd (bad-fine (BadRow n (row_fault r)) f)
fine-row (r ∷ rs) n row (suc (suc k)) e is =
    by-test (eqb (row_fault r) 0) e (λ f. fine-row rs (suc n) row (suc k) f is)
  where
    by-test : (t : Bool) → cond t (first_bad_row (suc n) rs) (Err (BadRow n (row_fault r))) ≡ fine
        → (first_bad_row (suc n) rs ≡ fine → row_fault row ≡ 0)
        → row_fault row ≡ 0
    by-test true f more = more f
    by-test false f more = absurd (bad-fine (BadRow n (row_fault r)) f)

fit_row : (rows : List (List ℕ)) (row : List ℕ) (k : ℕ) → all_fit rows ≡ true → kth_of rows k ≡ some row → row_fits row ≡ true
fit_row [] row k e is = none-some row is
fit_row (r ∷ rs) row zero e is = none-some row is
fit_row (r ∷ rs) row (suc zero) e is =
    ap row_fits (sym (same_some r row is)) ∙ and_left (row_fits r) (all_fit rs) e
fit_row (r ∷ rs) row (suc (suc k)) e is = fit_row rs row (suc k) (and_right (row_fits r) (all_fit rs) e) is

module _ (csv : List ℕ) {n : ℕ} (accepted : csv_judged csv ≡ Ok n) where
  all-fine : (first_bad_row 1 (rows_of csv) ≡ fine) × (cond (all_fit (rows_of csv)) fine (Err Uncarried) ≡ fine)
  unfolding csv_judged
  all-fine =
      both-fine (first_bad_row 1 (rows_of csv)) (cond (all_fit (rows_of csv)) fine (Err Uncarried))
      (accepted-fine (rows_judged (rows_of csv)) (length (rows_of csv)) accepted)

  pub accepted-row : (k : ℕ) (row : List ℕ) → kth_of (rows_of csv) k ≡ some row → (row_fault row ≡ 0) × (row_fits row ≡ true)
  accepted-row k row is = (
    fine-row (rows_of csv) 1 row k all-fine.0 is,
    fit_row (rows_of csv) row k (fit-fine (all_fit (rows_of csv)) all-fine.1) is,
  )

  -- so a place at which the row of a number begins is a row's
  pub row_here : (k place : ℕ) → place ≤ length csv → row_from (drop place csv) ≡ kth_of (rows_of csv) k → RowPlace csv place
  row_here k place low is =
      record {
        within = low;
        good = λ h.
            let there = sym is ∙ row-there (drop place csv) (omega (arith, h, length-drop place csv)) in
            let good = accepted-row k (drop place csv) there in
            record { within = low; fault = good.0; fits = good.1 };
      }

-- ---- there are no more rows than bytes

rows_few : (most : ℕ) (bytes : List ℕ) → length (rows_from most bytes) ≤ most
rows_few zero bytes = omega arith
rows_few (suc most) [] = omega arith
rows_few (suc most) (x ∷ xs) = let h = rows_few most (behind_row (x ∷ xs)) in omega (arith, h)

pub number-few : (rows : List (List ℕ)) (k : ℕ) (row : List ℕ) → kth_of rows k ≡ some row → (1 ≤ k) × (k ≤ length rows)
number-few [] k row e = none-some row e
number-few (r ∷ rs) zero row e = none-some row e
number-few (r ∷ rs) (suc zero) row e = (omega arith, omega arith)
number-few (r ∷ rs) (suc (suc k)) row e = let h = (number-few rs (suc k) row e).1 in (omega arith, omega (arith, h))

pub rows-within : (csv : List ℕ) → length (rows_of csv) ≤ length csv
unfolding rows_of
rows-within csv = rows_few (length csv) csv

pub number-within : (csv : List ℕ) (k place : ℕ) → place < length csv → row_from (drop place csv) ≡ kth_of (rows_of csv) k
    → k ≤ length csv
number-within csv k place h is =
    let there = sym is ∙ row-there (drop place csv) (omega (arith, h, length-drop place csv)) in
    omega (arith, number-few (rows_of csv) k (drop place csv) there, rows-within csv)
