-- The blocks of the first `view` views stand at `at` as far as the buffer goes, and `i` is the place behind them.
-- Assumes nothing.
use Rattle.std.proofs.Common.{◌≡◌, length}
use Rattle.report.specs.Fed.{Fed}
use Rattle.report.specs.Report.{blocks}
use Rattle.report_write.proofs.blocks.blocks_at.Given as goal

abbrev pub invariant-loop-view : goal.invariant-loop-view
invariant-loop-view l =
    (length l.out ≡ length l.fn.out) × Fed (blocks l.table l.points l.view) l.fn.out l.fn.at l.i l.out
