-- The points of those from the next on are left to write, and so are their organisations' rows, which stand from `row` on.
-- Assumes nothing.
use Rattle.std.proofs.Common.{◌+◌, ◌≤◌, length}
use Rattle.changes_source.specs.Rows.{table_stock}
use Rattle.label.proofs.Going.{Going}
use Rattle.build.specs.Plan.{organisation_rows}
use Rattle.build.specs.Bytes.{points_in}
use Rattle.book_build.specs.Chosen.{packed_all}
use Rattle.book_build.proofs.Packed.{packed_rest}
use Rattle.book_build.proofs.walks.points_at.Given as goal

abbrev pub invariant-loop-from : goal.invariant-loop-from
invariant-loop-from l =
    record {
      rows : l.row + length (organisation_rows l.book (packed_rest l.book l.chosen l.from-index)) ≤ l.at;
      going :
          Going (points_in (table_stock l.table) l.book l.book l.starts l.start (packed_all l.book l.chosen))
          (points_in (table_stock l.table) l.book l.book l.starts l.row (packed_rest l.book l.chosen l.from-index)) l.initial.out l.at
          l.end l.out;
    }
