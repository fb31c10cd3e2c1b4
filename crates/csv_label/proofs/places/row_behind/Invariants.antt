-- What stands behind the row from `i` on stands behind the row.
-- Assumes nothing.
use Rattle.std.proofs.Common.{◌≡◌, ◌≤◌, drop}
use Rattle.csv_paf.specs.File.{behind_row}
use Rattle.csv_label.proofs.places.row_behind.Given as goal

abbrev pub invariant-loop-i : goal.invariant-loop-i
invariant-loop-i l = (l.fn.at ≤ l.i) × (behind_row (drop l.fn.at l.csv) ≡ behind_row (drop l.i l.csv))
