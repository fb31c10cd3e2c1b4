-- The points of the records from `i` on are left to write, and so are their organisations' rows, which stand from `row` on.
-- Assumes nothing.
use Rattle.std.proofs.Common.{◌+◌, ◌-◌, ◌≤◌, length}
use Rattle.label.proofs.Going.{Going}
use Rattle.build.specs.Plan.{organisation_rows}
use Rattle.build.specs.Bytes.{points_in}
use Rattle.mainfile.specs.Set.{set_of}
use Rattle.mainfile.specs.Rows.{set_stock}
use Rattle.mainfile_mark.specs.Packed.{packed_by}
use Rattle.mainfile_build.specs.Written.{set_starts, set_points}
use Rattle.mainfile_build.proofs.points.points_at.Given as goal

abbrev pub invariant-loop-i : goal.invariant-loop-i
invariant-loop-i l =
    let files = set_of l.localities l.thoroughfares l.descriptors l.buildings l.sub_buildings l.organisations l.addresses in
    let starts = set_starts files l.of_localities l.of_thoroughfares l.of_descriptors l.of_buildings l.of_sub_buildings in
    let left = packed_by l.addresses l.organisations l.i (l.first + l.many - l.i) in
    record {
      rows : l.row + length (organisation_rows l.organisations left) ≤ l.at;
      going :
          Going (set_points files l.code l.of_localities l.of_thoroughfares l.of_descriptors l.of_buildings l.of_sub_buildings l.start)
          (points_in (set_stock files) l.addresses l.organisations starts l.row left) l.initial.out l.at l.end l.out;
    }
