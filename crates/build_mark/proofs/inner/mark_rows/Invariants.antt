-- The rows before the next are marked, those from it on are left.
-- Assumes nothing.
use Rattle.std.proofs.Common.{◌≡◌, drop}
use Rattle.build.specs.Plan.{mark_rows}
use Rattle.build_mark.proofs.inner.mark_rows.Given as goal

abbrev pub invariant-loop-row : goal.invariant-loop-row
invariant-loop-row l = mark_rows l.fn.rows l.initial.marks ≡ mark_rows (drop l.row-index l.fn.rows) l.marks
