-- Bytes that may stand in no text, counted over all bytes of the rows at once.
-- Assumes nothing.
use Rattle.std.specs.Prelude.{ℕ, ◌+◌, cond, List, [], ◌∷◌, take}
use Rattle.field.specs.Text.{text_byte}

-- 1 for a byte that may stand in no text
abbrev pub odd : ℕ → ℕ
odd b = cond (text_byte b) 0 1

abbrev pub odds : List ℕ → ℕ
odds [] = 0
odds (x ∷ xs) = odd x + odds xs

-- those before a place
abbrev pub odds_before : List ℕ → ℕ → ℕ
odds_before rows at = odds (take at rows)
