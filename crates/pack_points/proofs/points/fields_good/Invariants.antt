-- The points so far are good but for their offsets, so that the others decide.
-- Assumes nothing.
use Rattle.std.proofs.Common.{◌≡◌, ◌+◌, ◌-◌, ◌*◌}
use Rattle.pack_points.specs.Ready.{each_point, all_points, fields_fine}
use Rattle.pack_points.proofs.points.fields_good.Given as goal

abbrev pub invariant-loop-i : goal.invariant-loop-i
invariant-loop-i l =
    all_points l.pack (fields_fine l.pack)
    ≡ each_point (fields_fine l.pack) l.layout.point (l.count - l.i) (l.start + l.layout.point * l.i)
