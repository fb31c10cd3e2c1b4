-- A row whose fields have their forms and their widths is accepted, and so is a file of such rows.
-- Assumes nothing.
use Prim.Native.Nat.{ℕ, suc, ◌<◌}
use mathlib.Core.Path.{◌≡◌, refl}
use mathlib.Core.Bool.{Bool, true}
use mathlib.Core.List.{List, [], ◌∷◌, ◌++◌}
use borrow.Author.Tests.{eq-eqb}
use lib.ListN.{length}
use Rattle.csv_paf.specs.Row.{joined}
use Rattle.csv_paf.specs.File.{rows_of, forms_for, field_fault, row_fault, first_bad_row, widths, field_fits, fields_fit, row_fits, all_fit, csv_judged}
use Rattle.csv_paf.proofs.Fields.{InFields, fields_back, ended-back}
use Rattle.std.specs.Prelude.{Ok}
use Rattle.refusal.specs.Verdict.{fine}

-- each field has its form
abbrev pub Held : List (List ℕ → Bool) → List (List ℕ) → Type 0
Held [] [] = Unit {0}
Held [] (f ∷ fs) = ⊥
Held (form ∷ forms) [] = ⊥
Held (form ∷ forms) (f ∷ fs) = (form f ≡ true) × Held forms fs

pub held-fault : (forms : List (List ℕ → Bool)) (n : ℕ) (fs : List (List ℕ)) → Held forms fs
    → field_fault forms n fs true ≡ 0
held-fault [] n [] h = refl
held-fault [] n (f ∷ fs) h = absurd h
held-fault (form ∷ forms) n [] h = absurd h
held-fault (form ∷ forms) n (f ∷ fs) h = rw h.0 (held-fault forms (suc n) fs h.1)

-- and its width
abbrev pub Fitting : List ℕ → List (List ℕ) → Type 0
Fitting [] fs = Unit {0}
Fitting (w ∷ ws) [] = Unit {0}
Fitting (w ∷ ws) (f ∷ fs) = (field_fits w f ≡ true) × Fitting ws fs

pub fitting-fits : (ws : List ℕ) (fs : List (List ℕ)) → Fitting ws fs → fields_fit ws fs ≡ true
fitting-fits [] fs h = refl
fitting-fits (w ∷ ws) [] h = refl
fitting-fits (w ∷ ws) (f ∷ fs) h = rw h.0 (fitting-fits ws fs h.1)

-- a row is neither malformed nor refused with 15
pub record RowFine (row : List ℕ) : Type 0 where
  pub formed : row_fault row ≡ 0
  pub fits : row_fits row ≡ true

pub row_fine : (fs : List (List ℕ)) (rest : List ℕ) → 0 < length fs → InFields fs → Held (forms_for fs) fs → Fitting widths fs
    → RowFine (joined fs ++ rest)
unfolding row_fault row_fits
row_fine fs rest n clean held fits =
    record {
      formed = rw (fields_back rest fs n clean, ended-back rest fs clean) (held-fault (forms_for fs) 1 fs held);
      fits = rw (fields_back rest fs n clean) (fitting-fits widths fs fits);
    }

abbrev pub AllFine : List (List ℕ) → Type 0
AllFine [] = Unit {0}
AllFine (row ∷ rows) = RowFine row × AllFine rows

none-bad : (n : ℕ) (rows : List (List ℕ)) → AllFine rows → first_bad_row n rows ≡ fine
none-bad n [] h = refl
none-bad n (row ∷ rows) h = rw (eq-eqb (row_fault row) 0 h.0.formed) (none-bad (suc n) rows h.1)

all-fit : (rows : List (List ℕ)) → AllFine rows → all_fit rows ≡ true
all-fit [] h = refl
all-fit (row ∷ rows) h = rw h.0.fits (all-fit rows h.1)

-- a file of such rows is accepted
pub file-fine : (csv : List ℕ) → AllFine (rows_of csv) → csv_judged csv ≡ Ok (length (rows_of csv))
unfolding csv_judged
file-fine csv h = rw (none-bad 1 (rows_of csv) h, all-fit (rows_of csv) h)
