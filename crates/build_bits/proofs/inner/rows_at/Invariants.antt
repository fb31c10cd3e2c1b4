-- `i` is marked or the last, the marked rows before it stand, those from it on are left.
-- Assumes nothing.
use Rattle.std.proofs.Common.{◌≡◌, true, ◌-◌, ◌≤◌, ◌<◌}
use Rattle.label.proofs.Going.{Going}
use Rattle.shelf.specs.Stock.{stock_of}
use Rattle.build.specs.Rows.{is_marked}
use Rattle.build.specs.Bytes.{used_rows}
use Rattle.build.proofs.Laws.{rows_left}
use Rattle.build_bits.specs.Marks.{shelf_marks}
use Rattle.build_bits.proofs.inner.rows_at.Given as goal

abbrev pub invariant-loop-i : goal.invariant-loop-i
invariant-loop-i l =
    record {
      marked : l.i < l.last → (1 ≤ l.i) × (is_marked (shelf_marks l.s l.file l.bits) l.i ≡ true);
      going :
          Going (used_rows (stock_of l.s l.file) (shelf_marks l.s l.file l.bits)) (rows_left (stock_of l.s l.file) (shelf_marks l.s l.file l.bits) l.i)
          l.initial.out l.at l.end l.out;
    }

abbrev pub decreases-loop-i : goal.decreases-loop-i
decreases-loop-i l = l.last - l.i
