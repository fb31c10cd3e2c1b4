-- The records from `i` on are left to sum up, and no more rows are counted than records passed.
-- Assumes nothing.
use Rattle.std.proofs.Common.{◌+◌, ◌*◌, ◌-◌, ◌≤◌}
use Rattle.build.proofs.Walks.{Summing}
use Rattle.mainfile_mark.specs.Packed.{packed_by}
use Rattle.mainfile_points.proofs.walks.organisations_in.Given as goal

abbrev pub invariant-loop-i : goal.invariant-loop-i
invariant-loop-i l =
    record {
      summing :
          Summing l.organisations (packed_by l.addresses l.organisations l.first l.many)
          (packed_by l.addresses l.organisations l.i (l.first + l.many - l.i)) l.rows l.bytes;
      few : l.rows ≤ l.i;
      small : l.bytes ≤ 123 * l.i;
    }
