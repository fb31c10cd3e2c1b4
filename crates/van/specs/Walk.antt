-- Folding as code goes, line by line and row by row.
-- Assumes nothing.
use Rattle.std.specs.Prelude.{ℕ, suc, Bool, true, cond, List, [], ◌∷◌, eqb}
use Rattle.van.specs.Fold.{line, none, fold_line, folded, texts}

-- how many bytes the first line has
abbrev pub line_length : List ℕ → ℕ
line_length [] = 0
line_length (b ∷ text) = cond (eqb b 10) 0 (suc (line_length text))

-- the rows of a line, and those of any bytes
unfoldable pub line_rows : List ℕ → List (List ℕ)
line_rows bytes = texts (fold_line (line bytes none))

unfoldable pub text_rows : List ℕ → List (List ℕ)
text_rows text = texts (folded text)

-- "where it ends with a line end or is empty"
abbrev pub whole_lines : List ℕ → Bool
whole_lines [] = true
whole_lines (b ∷ []) = eqb b 10
whole_lines (b ∷ c ∷ text) = whole_lines (c ∷ text)
