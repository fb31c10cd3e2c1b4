-- Bits for the starts of rows: one for each byte of the row area.
-- Assumes nothing.
use Rattle.std.specs.Prelude.{ℕ, ◌/◌, ◌<◌, ◌≡◌, true, List, length}
use Rattle.bits.specs.Bits.{marked}
use Rattle.pack.specs.Opening.{rows_good, is_start}

-- as far as there are bits, they say where the n rows start
abbrev pub Marks : List ℕ → ℕ → List ℕ → Type 0
Marks rows n marks = (o : ℕ) → o / 32 < length marks → marked marks o ≡ is_start rows n 0 o

-- n good rows that are marked
pub record Fine (rows : List ℕ) (n : ℕ) (marks : List ℕ) : Type 0 where
  pub good : rows_good rows n 1 0 ≡ true
  pub some : 0 < length rows
  pub told : Marks rows n marks
