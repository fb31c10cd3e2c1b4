-- The offsets so far are good, so that the others decide.
-- Assumes nothing.
use Rattle.std.proofs.Common.{◌≡◌, drop}
use Rattle.pack.specs.Opening.{offset_kinds, offsets_good}
use Rattle.pack_points.proofs.offsets.offsets_of.Given as goal

abbrev pub invariant-loop-n : goal.invariant-loop-n
invariant-loop-n g l = offsets_good l.pack l.rest 0 offset_kinds ≡ offsets_good l.pack l.rest l.n (drop l.n offset_kinds)
