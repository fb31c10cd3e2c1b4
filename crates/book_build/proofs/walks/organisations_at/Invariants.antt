-- The rows of those from the next on are left to write.
-- Assumes nothing.
use Rattle.label.proofs.Going.{Going}
use Rattle.build.specs.Plan.{organisation_rows}
use Rattle.book_build.specs.Chosen.{packed_all}
use Rattle.book_build.proofs.Packed.{packed_rest}
use Rattle.book_build.proofs.walks.organisations_at.Given as goal

abbrev pub invariant-loop-start : goal.invariant-loop-start
invariant-loop-start l =
    Going (organisation_rows l.book (packed_all l.book l.chosen)) (organisation_rows l.book (packed_rest l.book l.chosen l.start-index))
    l.initial.out l.at l.end l.out
