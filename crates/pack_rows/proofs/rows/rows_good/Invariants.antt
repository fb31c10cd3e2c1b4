-- The rows so far are good, so that all are where the others are, from `at` and type `low` on.
-- Assumes nothing.
use Rattle.std.proofs.Common.{◌≡◌, ◌-◌, ◌≤◌, length}
use Rattle.pack.specs.Opening.{rows_good}
use Rattle.pack_rows.proofs.rows.rows_good.Given as goal

abbrev pub invariant-loop : goal.invariant-loop
invariant-loop l = (l.at ≤ length l.rows) × (rows_good l.rows l.count 1 0 ≡ rows_good l.rows (l.count - l.counter) l.low l.at)
