-- Nothing bad so far, and the bytes left, together say whether all bytes are plain.
-- Assumes nothing.
use Rattle.std.proofs.Common.{◌≡◌, not, ◌&&◌, drop}
use Rattle.csv_paf.specs.Row.{plain}
use Rattle.csv_write.proofs.carried.all_plain.Given as goal

abbrev pub invariant-loop-b : goal.invariant-loop-b
invariant-loop-b l = plain l.s ≡ not l.bad && plain (drop l.b-index l.s)
