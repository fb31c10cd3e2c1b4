-- What is left to search gives the same place.
-- Assumes nothing.
use Rattle.std.proofs.Common.{◌-◌, get_or}
use Rattle.shelf.proofs.Search.{Left}
use Rattle.shelf_find.proofs.inner.upper_ref.Given as goal

abbrev pub invariant-loop-low : goal.invariant-loop-low
invariant-loop-low l = Left (λ i. get_or l.refs i 0) l.last l.r l.low l.high

abbrev pub decreases-loop-low : goal.decreases-loop-low
decreases-loop-low l = l.high - l.low
