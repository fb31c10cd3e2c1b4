-- The rows before row `i` stand, those from it on are left.
-- Assumes nothing.
use Rattle.label.proofs.Going.{Going}
use Rattle.shelf.specs.Stock.{stock_of}
use Rattle.build.specs.Bytes.{used_rows}
use Rattle.build.proofs.Laws.{rows_left}
use Rattle.build_rows.proofs.used.rows_at.Given as goal

abbrev pub invariant-loop-i : goal.invariant-loop-i
invariant-loop-i l =
    Going (used_rows (stock_of l.s l.file) l.starts) (rows_left (stock_of l.s l.file) l.starts l.i) l.initial.out l.at l.end l.out
