-- No record before `i` is refused, and the rows that those refer to are marked; there is still a bit for each row.
-- Assumes nothing.
use Rattle.std.proofs.Common.{◌+◌, ◌-◌}
use Rattle.build.proofs.Walks.{Marking}
use Rattle.mainfile.specs.Set.{set_of}
use Rattle.mainfile.specs.Rows.{set_stock}
use Rattle.mainfile_mark.specs.Marks.{set_marks}
use Rattle.mainfile_mark.specs.Packed.{packed_from}
use Rattle.mainfile_mark.proofs.walk.mark_addresses.Given as goal

abbrev pub invariant-loop-i : goal.invariant-loop-i
invariant-loop-i l =
    let s = set_of l.localities l.thoroughfares l.descriptors l.buildings l.sub_buildings l.organisations l.addresses in
    let old = l.initial in
    Marking (set_stock s) (packed_from s l.first l.many)
    (set_marks s old.of_localities old.of_thoroughfares old.of_descriptors old.of_buildings old.of_sub_buildings)
    (packed_from s l.i-counter (l.first + l.many - l.i-counter))
    (set_marks s l.of_localities l.of_thoroughfares l.of_descriptors l.of_buildings l.of_sub_buildings)
