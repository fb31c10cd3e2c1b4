-- The points of the views from `place` on are left to write, and so are their organisations' rows, which stand from `row` on.
-- Assumes nothing.
use Rattle.std.proofs.Common.{◌+◌, ◌≤◌, length}
use Rattle.changes_source.specs.Rows.{table_stock}
use Rattle.label.proofs.Going.{Going}
use Rattle.build.specs.Plan.{organisation_rows}
use Rattle.build.specs.Bytes.{points_in}
use Rattle.changes_build.specs.Views.{packed_in}
use Rattle.changes_build.proofs.Packed.{packed_from}
use Rattle.changes_build.proofs.walks.points_at.Given as goal

abbrev pub invariant-loop-place : goal.invariant-loop-place
invariant-loop-place l =
    record {
      rows : l.row + length (organisation_rows l.points (packed_from l.points l.code l.place)) ≤ l.at;
      going :
          Going (points_in (table_stock l.table) l.points l.points l.starts l.start (packed_in l.points l.code))
          (points_in (table_stock l.table) l.points l.points l.starts l.row (packed_from l.points l.code l.place)) l.initial.out l.at
          l.end l.out;
    }
