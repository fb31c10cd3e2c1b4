-- A file judged row by row: where judging begins, goes on and ends.
-- Assumes nothing.
use Prim.Native.Nat.{ℕ, suc, ◌+◌, ◌≤◌, ◌<◌}
use mathlib.Core.Path.{◌≡◌, refl, sym, ap, ap₂, ◌∙◌}
use mathlib.Core.Bool.{Bool, true, false, cond, ◌&&◌, and_assoc}
use mathlib.Core.List.{List, [], ◌∷◌}
use native.Mathlib.Omega.{arith}
use native.Mathlib.Numerals.{add-one}
use borrow.Author.Tests.{eq-eqb, ne_eqb}
use lib.Dec.{eqb}
use Rattle.field.proofs.Tests.{and-true}
use lib.ListN.{length, drop, get_or, drop_of_length-le}
use lib.Seq.{drop-cons}
use Rattle.refusal.specs.declared.Reason.TheVariants.{BadRow, Uncarried}
use Rattle.refusal.specs.Verdict.{or_else}
use Rattle.csv_paf.specs.File.{behind_row, rows_of, row_fault, first_bad_row, row_fits, all_fit, judged_as, csv_judged}
use Rattle.csv_paf.proofs.Rows.{rows_none, rows_next}
use Rattle.csv_read.specs.Judged.{Ends}
use Rattle.csv_read.specs.declared.rows.Row.{Row}
use Rattle.std.specs.Prelude.{Ok, Err}
use Rattle.refusal.specs.Answer.{refusal}
use Rattle.refusal.specs.Verdict.{Verdict, fine}

-- so many rows before a place have no fault; whether none of them is refused with 15
pub record Checking (csv : List ℕ) (rows : ℕ) (fit : Bool) (at : ℕ) : Type 0 where
  pub within : at ≤ length csv
  pub few : rows ≤ at
  pub bad : first_bad_row 1 (rows_of csv) ≡ first_bad_row (suc rows) (rows_of (drop at csv))
  pub fits : all_fit (rows_of csv) ≡ (fit && all_fit (rows_of (drop at csv)))
  pub many : length (rows_of csv) ≡ rows + length (rows_of (drop at csv))

pub checking-start : (csv : List ℕ) → Checking csv 0 true 0
checking-start csv =
    record { within = omega arith; few = omega arith; bad = refl; fits = refl; many = omega arith }

module _ {csv : List ℕ} {rows : ℕ} {fit : Bool} {at : ℕ} (k : Checking csv rows fit at) where
  -- no row is left
  module _ (end : length csv ≤ at) where
    none : rows_of (drop at csv) ≡ []
    none = ap rows_of (drop_of_length-le csv {i = at} end) ∙ rows_none

    no-bad : first_bad_row 1 (rows_of csv) ≡ fine
    no-bad = k.bad ∙ ap (first_bad_row (suc rows)) none

    fit_all : all_fit (rows_of csv) ≡ fit
    fit_all = k.fits ∙ (ap (λ (rs : List (List ℕ)). fit && all_fit rs) none ∙ and-true fit)

    rows_all : length (rows_of csv) ≡ rows
    rows_all = k.many ∙ (ap (λ (rs : List (List ℕ)). rows + length rs) none ∙ zero_more rows)
      where
        zero_more : (n : ℕ) → n + 0 ≡ n
        zero_more n = omega arith

    judged-as : csv_judged csv ≡ judged_as (cond fit fine (Err Uncarried)) rows
    unfolding csv_judged
    judged-as =
        ap₂ judged_as
        (ap₂ (λ (v : Verdict) (t : Bool). or_else v (cond t fine (Err Uncarried))) no-bad fit_all) rows_all

    pub checked-fine : fit ≡ true → Ok rows ≡ csv_judged csv
    checked-fine e = sym (judged-as ∙ ap (λ (t : Bool). judged_as (cond t fine (Err Uncarried)) rows) e)

    pub checked-long : fit ≡ false → refusal 0 Uncarried ≡ csv_judged csv
    checked-long e = sym (judged-as ∙ ap (λ (t : Bool). judged_as (cond t fine (Err Uncarried)) rows) e)

  -- a row is left
  module _ (left : at < length csv) where
    abbrev row : List ℕ
    row = drop at csv

    next : rows_of row ≡ row ∷ rows_of (behind_row row)
    next =
        ap rows_of (drop-cons csv at 0 left)
        ∙ (rows_next (get_or csv at 0) (drop (suc at) csv)
        ∙ sym (ap (λ (r : List ℕ). r ∷ rows_of (behind_row r)) (drop-cons csv at 0 left)))

    told : first_bad_row 1 (rows_of csv)
        ≡ cond (eqb (row_fault row) 0) (first_bad_row (suc (suc rows)) (rows_of (behind_row row)))
        (Err (BadRow (suc rows) (row_fault row)))
    told = k.bad ∙ ap (first_bad_row (suc rows)) next

    pub checked-bad : {fault : ℕ} → fault ≡ row_fault row → (fault ≡ 0 → ⊥) → refusal 0 (BadRow (rows + 1) fault) ≡ csv_judged csv
    unfolding csv_judged
    checked-bad {fault} is some =
        sym
        (ap (λ (v : Verdict). judged_as (or_else v (cond (all_fit (rows_of csv)) fine (Err Uncarried))) (length (rows_of csv)))
        (told
        ∙ (ap (λ (t : Bool). cond t (first_bad_row (suc (suc rows)) (rows_of (behind_row row))) (Err (BadRow (suc rows) (row_fault row))))
        (ne_eqb (row_fault row) 0 (λ z. some (is ∙ z)))
        ∙ ap₂ (λ (n f : ℕ). Err (BadRow n f)) (sym (add-one rows)) (sym is))))

    pub checking-step : {j : Row} → Ends csv at j → Checking csv (rows + 1) (fit && j.fits) j.end
    checking-step {j} e =
        record {
          within = e.high;
          few = omega (arith, k.few, e.on);
          bad =
              told
              ∙ (ap (λ (t : Bool). cond t (first_bad_row (suc (suc rows)) (rows_of (behind_row row))) (Err (BadRow (suc rows) (row_fault row))))
              (eq-eqb (row_fault row) 0 e.sound)
              ∙ ap₂ (λ (n : ℕ) (r : List ℕ). first_bad_row (suc n) (rows_of r)) (sym (add-one rows)) (sym e.behind));
          fits =
              k.fits
              ∙ (ap (λ (rs : List (List ℕ)). fit && all_fit rs) next
              ∙ (sym (and_assoc fit (row_fits row) (all_fit (rows_of (behind_row row))))
              ∙ ap₂ (λ (t : Bool) (r : List ℕ). (fit && t) && all_fit (rows_of r)) (sym e.fits) (sym e.behind)));
          many =
              k.many
              ∙ (ap (λ (rs : List (List ℕ)). rows + length rs) next
              ∙ (one_on (length (rows_of (behind_row row)))
              ∙ ap (λ (r : List ℕ). rows + 1 + length (rows_of r)) (sym e.behind)));
        }
      where
        one_on : (n : ℕ) → rows + suc n ≡ rows + 1 + n
        one_on n = omega arith
