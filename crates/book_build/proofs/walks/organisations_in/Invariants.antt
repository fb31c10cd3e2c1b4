-- Those from the next on are left to sum up, and no more rows are counted than delivery points passed.
-- Assumes nothing.
use Rattle.std.proofs.Common.{◌*◌, ◌≤◌}
use Rattle.build.proofs.Walks.{Summing}
use Rattle.book_build.specs.Chosen.{packed_all}
use Rattle.book_build.proofs.Packed.{packed_rest}
use Rattle.book_build.proofs.walks.organisations_in.Given as goal

abbrev pub invariant-loop-start : goal.invariant-loop-start
invariant-loop-start l =
    record {
      few : l.rows ≤ l.start-index;
      small : l.bytes ≤ 123 * l.start-index;
      summing : Summing l.book (packed_all l.book l.chosen) (packed_rest l.book l.chosen l.start-index) l.rows l.bytes;
    }
