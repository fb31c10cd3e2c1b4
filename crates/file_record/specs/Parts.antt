-- The records of a file.
-- Assumes nothing.
use Rattle.std.specs.Prelude.{ℕ, ◌+◌, ◌*◌, ◌/◌, cond, List, [], ltb, length}
use Rattle.field.specs.Text.{part}

-- "records end to end", here counted from 0: record i of a file whose records are w bytes, if it has so many
unfoldable pub record_at : ℕ → List ℕ → ℕ → List ℕ
record_at w file i = cond (ltb i (length file / w)) (part file (i * w) (i * w + w)) []
