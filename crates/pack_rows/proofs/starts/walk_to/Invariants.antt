-- What a walk from `from` tells of an offset at or behind `place`, one from `at` tells too.
-- Assumes nothing.
use Rattle.std.proofs.Common.{ℕ, ◌-◌, ◌≤◌, ◌<◌, length}
use Rattle.pack_rows.specs.Walks.{Tells}
use Rattle.pack_rows.proofs.starts.walk_to.Given as goal

abbrev pub invariant-loop-at : goal.invariant-loop-at
invariant-loop-at l = (n o : ℕ) → l.place ≤ o → o < length l.rows → Tells l.rows n o l.from → Tells l.rows n o l.at

abbrev pub decreases-loop-at : goal.decreases-loop-at
decreases-loop-at l = l.place - l.at
