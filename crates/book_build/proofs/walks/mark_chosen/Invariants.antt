-- None before the next is refused, and the rows that those refer to are marked.
-- Assumes nothing.
use Rattle.changes_source.specs.Rows.{table_stock}
use Rattle.build.proofs.Walks.{Marking}
use Rattle.book_build.specs.Chosen.{packed_all}
use Rattle.book_build.proofs.Packed.{packed_rest}
use Rattle.book_build.proofs.walks.mark_chosen.Given as goal

abbrev pub invariant-loop-start : goal.invariant-loop-start
invariant-loop-start l =
    Marking (table_stock l.table) (packed_all l.book l.chosen) l.initial.marks (packed_rest l.book l.chosen l.start-index) l.marks
