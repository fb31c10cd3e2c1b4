use Rattle.std.proofs.Common.{◌≡◌, ◌≤◌, ◌+◌, ◌-◌, ◌∷◌, get_or}
use Rattle.changes_views.specs.Views.{last_of, places_from, wanted_at}
use Rattle.changes_views.proofs.wanted_at.Given as goal

-- the `k`-th is the one so many places behind this one
abbrev pub invariant-loop : goal.invariant-loop
invariant-loop l = record {
  inside : l.at ≤ last_of l.points;
  left : wanted_at l.code l.points l.k ≡ get_or (l.at ∷ places_from l.code l.points (l.at + 1)) (l.k - l.counter) 0;
}
