-- What the walks over a stretch of address records rest on.
-- Assumes nothing.
use Rattle.std.specs.Prelude.{ℕ, ◌+◌, ◌/◌, ◌≤◌, List, length}
use Rattle.mainfile_record.specs.Organisation as Row
use Rattle.mainfile_views.specs.Range.{last_of}

-- its records stand before the trailer, and the organisations file has a header
pub record Standing (organisations addresses : List ℕ) (first many : ℕ) : Type 0 where
  pub before : first + many ≤ last_of addresses
  pub headed : 1 ≤ length organisations / Row.width
