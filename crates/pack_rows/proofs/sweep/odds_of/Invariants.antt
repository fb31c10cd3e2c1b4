-- What is counted and what the parts that are left have make up the count.
-- Assumes nothing.
use Rattle.std.proofs.Common.{◌≡◌, ◌+◌, drop, sum_by}
use Rattle.pack_rows.specs.Odds.{odds}
use Rattle.pack_rows.proofs.sweep.odds_of.Given as goal

abbrev pub invariant-loop-part : goal.invariant-loop-part
invariant-loop-part l = l.n + sum_by odds (drop l.part-index l.parts) ≡ odds l.fn.s
