-- The rows of the records from `i` on are left to write.
-- Assumes nothing.
use Rattle.std.proofs.Common.{◌+◌, ◌-◌}
use Rattle.label.proofs.Going.{Going}
use Rattle.build.specs.Plan.{organisation_rows}
use Rattle.mainfile_mark.specs.Packed.{packed_by}
use Rattle.mainfile_points.proofs.walks.organisations_at.Given as goal

abbrev pub invariant-loop-i : goal.invariant-loop-i
invariant-loop-i l =
    Going (organisation_rows l.organisations (packed_by l.addresses l.organisations l.first l.many))
    (organisation_rows l.organisations (packed_by l.addresses l.organisations l.i (l.first + l.many - l.i))) l.initial.out l.at l.to
    l.out
