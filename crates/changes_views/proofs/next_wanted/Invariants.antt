use Rattle.std.proofs.Common.{◌≡◌}
use Rattle.changes_views.specs.Views.{next_wanted}
use Rattle.changes_views.proofs.next_wanted.Given as goal

-- the step from here is the step from the start
abbrev pub invariant-loop-at : goal.invariant-loop-at
invariant-loop-at l = next_wanted l.code l.points l.i ≡ next_wanted l.code l.points l.at
