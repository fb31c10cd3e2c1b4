-- Of rows that are good, each stretch so far has its first row start kept, and `at` is a row start.
-- Assumes nothing.
use Rattle.std.proofs.Common.{◌≡◌, ℕ, ◌*◌, true}
use Rattle.pack.specs.Opening.{rows_good}
use Rattle.pack_rows.proofs.WalkLaws.{Keeps}
use Rattle.pack_rows.proofs.starts.keep_starts.Given as goal

abbrev pub invariant-loop-j : goal.invariant-loop-j
invariant-loop-j l = (n : ℕ) → rows_good l.rows n 1 0 ≡ true → Keeps l.rows n l.width l.starts l.at (l.j * l.width)
