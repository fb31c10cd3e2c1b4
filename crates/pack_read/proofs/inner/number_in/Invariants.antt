-- The number that the bytes so far make, below 256 to as many as they are.
-- Assumes nothing.
use Rattle.std.proofs.Common.{◌≡◌, ◌^◌, ◌<◌, drop}
use Rattle.pack.specs.Numbers.{number_from}
use Rattle.pack_read.proofs.inner.number_in.Given as goal

abbrev pub invariant-loop-b : goal.invariant-loop-b
invariant-loop-b l = (l.v < 256 ^ l.b-index) × (number_from 0 l.s ≡ number_from l.v (drop l.b-index l.s))
