-- The numbers before the next stand, those from it on are left.
-- Assumes nothing.
use Rattle.std.proofs.Common.{drop}
use Rattle.label.proofs.Going.{Going}
use Rattle.pack.specs.Sectors.{counts_bytes}
use Rattle.build_bytes.proofs.fields.words_at.Given as goal

abbrev pub invariant-loop-n : goal.invariant-loop-n
invariant-loop-n l =
    Going (counts_bytes l.ns) (counts_bytes (drop l.n-index l.ns)) l.initial.out l.at l.end l.out
