-- Before row `i` the marked rows have their starts, from it on the marks are as they were; rows and bytes are those of the rows
-- before it.
-- Assumes nothing.
use Rattle.std.proofs.Common.{◌≡◌, suc, ◌-◌, ◌*◌, ◌≤◌}
use Rattle.shelf.specs.Stock.{stock_of}
use Rattle.build.specs.Rows.{bytes_to, count_to}
use Rattle.build.proofs.Laws.{Placing}
use Rattle.build_place.proofs.inner.place_rows.Given as goal

abbrev pub invariant-loop-i : goal.invariant-loop-i
invariant-loop-i l =
    record {
      placing : Placing (stock_of l.s l.file) l.initial.marks l.i l.marks;
      rows : l.rows ≡ count_to l.initial.marks (l.i - 1);
      bytes : l.bytes ≡ bytes_to (stock_of l.s l.file) l.initial.marks (l.i - 1);
      within : l.i ≤ suc (l.last - 1);
      few : l.rows ≤ l.i;
      small : l.bytes ≤ 104 * l.i;
    }
