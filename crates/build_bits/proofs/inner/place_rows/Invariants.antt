-- The blocks before block `k` have their starts, and the rows before its first are counted.
-- Assumes nothing.
use Rattle.std.proofs.Common.{◌+◌, ◌*◌}
use Rattle.shelf.specs.Stock.{stock_of}
use Rattle.build_bits.specs.Marks.{shelf_marks}
use Rattle.build_bits.proofs.Walks.{Filling}
use Rattle.build_bits.proofs.inner.place_rows.Given as goal

abbrev pub invariant-loop-k : goal.invariant-loop-k
invariant-loop-k l =
    Filling (stock_of l.s l.file) (shelf_marks l.s l.file l.bits) l.start l.blocks l.rows l.bytes (64 * l.k + 1) l.k
