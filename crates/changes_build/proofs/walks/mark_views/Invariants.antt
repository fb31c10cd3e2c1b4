-- No view before `place` is refused, and the rows that those refer to are marked.
-- Assumes nothing.
use Rattle.changes_source.specs.Rows.{table_stock}
use Rattle.build.proofs.Walks.{Marking}
use Rattle.changes_build.specs.Views.{packed_in}
use Rattle.changes_build.proofs.Packed.{packed_from}
use Rattle.changes_build.proofs.walks.mark_views.Given as goal

abbrev pub invariant-loop-place : goal.invariant-loop-place
invariant-loop-place l =
    Marking (table_stock l.table) (packed_in l.points l.code) l.initial.marks (packed_from l.points l.code l.place-counter) l.marks
