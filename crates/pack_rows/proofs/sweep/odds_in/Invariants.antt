-- What is counted and what is left make up the count.
-- Assumes nothing.
use Rattle.std.proofs.Common.{◌≡◌, ◌+◌, ◌≤◌, drop}
use Rattle.pack_rows.specs.Odds.{odds}
use Rattle.pack_rows.proofs.sweep.odds_in.Given as goal

abbrev pub invariant-loop-b : goal.invariant-loop-b
invariant-loop-b l = (l.n ≤ l.b-index) × (l.n + odds (drop l.b-index l.s) ≡ odds l.s)
