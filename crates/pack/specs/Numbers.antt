-- "Numbers are most significant byte first."
-- Assumes nothing.
use Rattle.std.specs.Prelude.{ℕ, zero, suc, ◌+◌, ◌*◌, ◌/◌, ◌%◌, ◌^◌, List, [], ◌∷◌}
use Rattle.field.specs.Text.{part}

-- a number in so many bytes
abbrev pub bytes_of : ℕ → ℕ → List ℕ
bytes_of zero n = []
bytes_of (suc w) n = n / 256 ^ w % 256 ∷ bytes_of w n

-- bytes read from the front, v being the number so far
abbrev pub number_from : ℕ → List ℕ → ℕ
number_from v [] = v
number_from v (x ∷ xs) = number_from (v * 256 + x) xs

-- the number in so many bytes at a place
unfoldable pub number_at : List ℕ → ℕ → ℕ → ℕ
number_at bytes at width = number_from 0 (part bytes at (at + width))
