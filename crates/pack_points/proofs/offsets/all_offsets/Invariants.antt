-- The offsets of the points so far are good, so that the others decide; those of the last one too.
-- Assumes nothing.
use Rattle.std.proofs.Common.{◌≡◌, ◌+◌, ◌-◌, ◌*◌, true}
use Rattle.std.specs.Prelude.{IfSome}
use Rattle.pack.specs.Opening.{offset_kinds, offsets_good}
use Rattle.pack_read.specs.Laid.{RestIn}
use Rattle.pack_points.specs.Ready.{each_point, all_points, offsets_fine}
use Rattle.pack_points.proofs.offsets.all_offsets.Given as goal

abbrev pub invariant-loop-i : goal.invariant-loop-i
invariant-loop-i g l =
    (all_points l.pack (offsets_fine l.pack)
    ≡ each_point (offsets_fine l.pack) l.layout.point (l.count - l.i) (l.start + l.layout.point * l.i))
    × IfSome l.known (λ other. RestIn l.pack other × (offsets_good l.pack other 0 offset_kinds ≡ true))
