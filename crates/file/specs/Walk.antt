-- A walk over the records of a file between header and trailer.
-- Assumes nothing.
use Rattle.std.specs.Prelude.{ℕ, ◌+◌, ◌-◌, ◌≤◌, ◌<◌, ◌≡◌, List}
use Rattle.file.specs.Check.{Format, records, judged}
use Rattle.refusal.specs.Verdict.{fine}

-- record i is one of them, and the one before it is judged fine, or is the header
pub record Walk (f : Format) (file : List ℕ) (i : ℕ) : Type 0 where
  pub low : 1 ≤ i
  pub high : i + 1 < records f file
  pub last_fine : (i ≡ 1 → ⊥) → judged f file (i - 1) ≡ fine
