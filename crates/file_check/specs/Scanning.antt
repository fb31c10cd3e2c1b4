-- A file on its way through the check of its records.
-- Assumes nothing.
use Rattle.std.specs.Prelude.{ℕ, ◌-◌, ◌≤◌, ◌≡◌, List}
use Rattle.file.specs.Check.{Format, records, judged, scan}
use Rattle.refusal.specs.Verdict.{fine}

module _ (f : Format) (file : List ℕ) (n : ℕ) where
  -- the record before i is judged fine, or is the header
  pub record Scanning (i : ℕ) : Type 0 where
    pub all : n ≡ records f file
    pub two : 2 ≤ n
    pub few : n ≤ 1_000_000
    pub low : 1 ≤ i
    pub high : i ≤ n - 1
    pub last_fine : (i ≡ 1 → ⊥) → judged f file (i - 1) ≡ fine

  -- the records from `from` up to i are fine, so that what is found from there on is found from i on
  pub record Onward (from i : ℕ) : Type 0 where
    pub on : from ≤ i
    pub reached : Scanning i
    pub found : scan (judged f file) (n - 1 - from) from ≡ scan (judged f file) (n - 1 - i) i
