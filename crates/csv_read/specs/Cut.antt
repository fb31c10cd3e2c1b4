-- Where the fields of a row stand in a file.
-- Assumes nothing.
use Rattle.std.specs.Prelude.{ℕ, zero, suc, ◌+◌, Bool, cond, ◌||◌, List, [], ◌∷◌, eqb, drop}
use Rattle.csv_paf.specs.File.{row_ends, fields_of}

-- "Only a comma, CR LF or the end of the file ends a field"
abbrev pub ends_field : ℕ → List ℕ → Bool
ends_field x xs = eqb x 44 || row_ends x xs

-- how many bytes the first field has
abbrev pub field_length : List ℕ → ℕ
field_length [] = 0
field_length (x ∷ xs) = cond (ends_field x xs) 0 (suc (field_length xs))

-- the fields behind one
abbrev pub more_fields : List ℕ → List (List ℕ)
more_fields [] = []
more_fields (x ∷ xs) = cond (eqb x 44) (fields_of xs) []

-- where the field that begins at a place ends
unfoldable pub field_end : List ℕ → ℕ → ℕ
field_end csv at = at + field_length (drop at csv)

-- where the n-th field of the row that begins at a place begins, counted from 0
abbrev pub field_start : List ℕ → ℕ → ℕ → ℕ
field_start csv at zero = at
field_start csv at (suc n) = suc (field_end csv (field_start csv at n))
