-- The views from `place` on are left to sum up, and no more rows are counted than places passed.
-- Assumes nothing.
use Rattle.std.proofs.Common.{◌*◌, ◌≤◌}
use Rattle.build.proofs.Walks.{Summing}
use Rattle.changes_build.specs.Views.{packed_in}
use Rattle.changes_build.proofs.Packed.{packed_from}
use Rattle.changes_build.proofs.walks.organisations_in.Given as goal

abbrev pub invariant-loop-place : goal.invariant-loop-place
invariant-loop-place l =
    record {
      summing : Summing l.points (packed_in l.points l.code) (packed_from l.points l.code l.place) l.rows l.bytes;
      few : l.rows ≤ l.place;
      small : l.bytes ≤ 123 * l.place;
    }
