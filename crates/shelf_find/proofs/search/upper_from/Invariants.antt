-- What is left to search gives the same place.
-- Assumes nothing.
use Rattle.std.proofs.Common.{◌-◌}
use Rattle.shelf.specs.Shelf.{ref_at, last_of}
use Rattle.shelf.proofs.Search.{Left}
use Rattle.shelf_find.proofs.search.upper_from.Given as goal

abbrev pub invariant-loop-low : goal.invariant-loop-low
invariant-loop-low l = Left (ref_at l.s l.file) (last_of l.s l.file) l.r l.low l.high

abbrev pub decreases-loop-low : goal.decreases-loop-low
decreases-loop-low l = l.high - l.low
