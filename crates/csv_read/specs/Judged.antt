-- A row as it is judged.
-- Assumes nothing.
use Rattle.std.specs.Prelude.{ℕ, suc, ◌+◌, ◌≤◌, ◌<◌, ◌≡◌, Bool, false, cond, ◌&&◌, List, [], ◌∷◌, eqb, length, drop, get_or, Result, Ok, Err, MatchResult}
use Rattle.field.specs.Text.{blank}
use Rattle.csv_paf.specs.File.{fields_of, is_ended, behind_row, forms_for, field_fault, row_fault, widths, fields_fit, row_fits}
use Rattle.csv_read.specs.declared.rows.Row.{Row}

-- no field is of this form
abbrev pub no_form : List ℕ → Bool
no_form f = false

-- the n-th field of a row, counted from 0, begins at a place, and those before are well formed; whether the one before is
-- blank, and whether those before are not too long and have no quote
pub record Reading (csv : List ℕ) (at n start : ℕ) (before fit : Bool) : Type 0 where
  pub low : at ≤ start
  pub within : start ≤ length csv
  pub fields : drop n (fields_of (drop at csv)) ≡ fields_of (drop start csv)
  pub fault : row_fault (drop at csv)
      ≡ field_fault (drop n (forms_for (fields_of (drop at csv)))) (suc n) (fields_of (drop start csv)) (is_ended (drop start csv))
  pub behind : behind_row (drop at csv) ≡ behind_row (drop start csv)
  pub fits : row_fits (drop at csv) ≡ (fit && fields_fit (drop n widths) (fields_of (drop start csv)))
  pub last : before ≡ blank (get_or ([] ∷ fields_of (drop at csv)) n [])

-- a row that ends at a place behind its n-th field
abbrev pub ended_row : List ℕ → (n end : ℕ) → Bool → Result Row ℕ
ended_row csv n end fits =
    cond (eqb n 15) (cond (eqb (get_or csv end 0) 13) (Ok (record { fits = fits; end = end + 2 })) (Err (n + 2))) (Err (n + 2))

-- where a row without a fault ends, and whether it is not refused with 15
pub record Ends (csv : List ℕ) (at : ℕ) (row : Row) : Type 0 where
  pub sound : row_fault (drop at csv) ≡ 0
  pub fits : row.fits ≡ row_fits (drop at csv)
  pub behind : drop row.end csv ≡ behind_row (drop at csv)
  pub high : row.end ≤ length csv
  pub on : at < row.end

-- the fault of a row that has one
pub record Faulty (csv : List ℕ) (at fault : ℕ) : Type 0 where
  pub is : fault ≡ row_fault (drop at csv)
  pub some : 0 < fault

abbrev pub Judges : List ℕ → ℕ → Result Row ℕ → Type 0
Judges csv at row = MatchResult row (Ends csv at) (Faulty csv at)
