-- Steps over rows that are fine as far as their lengths and the ends of their texts go.
-- Assumes nothing.
use Rattle.std.specs.Prelude.{ℕ, ◌+◌, ◌≤◌, ◌≡◌, true, List, length}
use Rattle.pack.specs.Opening.{row_kind, row_end, row_good}
use Rattle.pack_rows.specs.Odds.{odds_before}
use Rattle.pack_rows.specs.declared.fine.Step.{Step}

-- a row that was stepped over: so many of its bytes outside of its texts may stand in no text, and where these are all of
-- its bytes that may not, it is good
pub record Stepped (rows : List ℕ) (at : ℕ) (s : Step) : Type 0 where
  pub end : s.end ≡ row_end rows at
  pub within : s.end ≤ length rows
  pub counted : odds_before rows at + s.odds ≤ odds_before rows s.end
  pub good : odds_before rows at + s.odds ≡ odds_before rows s.end → (low : ℕ) → low ≤ row_kind rows at
      → row_good rows low at ≡ true
