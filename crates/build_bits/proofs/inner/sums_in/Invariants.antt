-- `i` is marked or the last, and the marked rows before it are counted.
-- Assumes nothing.
use Rattle.std.proofs.Common.{◌≡◌, true, ◌-◌, ◌≤◌, ◌<◌}
use Rattle.shelf.specs.Stock.{stock_of}
use Rattle.build.specs.Rows.{is_marked}
use Rattle.build_bits.specs.Marks.{shelf_marks}
use Rattle.build_bits.proofs.Walks.{Walked}
use Rattle.build_bits.proofs.inner.sums_in.Given as goal

abbrev pub invariant-loop-i : goal.invariant-loop-i
invariant-loop-i l =
    record {
      walked : Walked (stock_of l.s l.file) (shelf_marks l.s l.file l.bits) l.from l.i l.rows l.bytes;
      within : l.i ≤ l.to;
      marked : l.i < l.to → is_marked (shelf_marks l.s l.file l.bits) l.i ≡ true;
    }

abbrev pub decreases-loop-i : goal.decreases-loop-i
decreases-loop-i l = l.to - l.i
