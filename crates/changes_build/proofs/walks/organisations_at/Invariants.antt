-- The rows of the views from `place` on are left to write.
-- Assumes nothing.
use Rattle.label.proofs.Going.{Going}
use Rattle.build.specs.Plan.{organisation_rows}
use Rattle.changes_build.specs.Views.{packed_in}
use Rattle.changes_build.proofs.Packed.{packed_from}
use Rattle.changes_build.proofs.walks.organisations_at.Given as goal

abbrev pub invariant-loop-place : goal.invariant-loop-place
invariant-loop-place l =
    Going (organisation_rows l.points (packed_in l.points l.code)) (organisation_rows l.points (packed_from l.points l.code l.place))
    l.initial.out l.at l.end l.out
