-- `views` is the number at `i`.
-- Assumes nothing.
use Rattle.std.proofs.Common.{◌≡◌}
use Rattle.changes_views.specs.Views.{view_number}
use Rattle.changes_items.proofs.places.number_on.Given as goal

abbrev pub invariant-loop-i : goal.invariant-loop-i
invariant-loop-i l = l.views ≡ view_number l.points l.i
