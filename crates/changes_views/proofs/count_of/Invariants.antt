use Rattle.std.proofs.Common.{◌≡◌, ◌+◌, ◌-◌, length}
use Rattle.changes_views.specs.Views.{wanted_from}
use Rattle.changes_views.proofs.count_of.Given as goal

-- those from here on are to count yet
abbrev pub invariant-loop-i : goal.invariant-loop-i
invariant-loop-i l =
    length (wanted_from l.code l.points l.many 1) ≡ l.n + length (wanted_from l.code l.points (l.many - l.i) (l.i + 1))
