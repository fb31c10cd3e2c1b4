-- Whether the trailer says all counts is whether it says those that are left.
-- Assumes nothing.
use Rattle.std.proofs.Common.{◌≡◌, drop}
use Rattle.pack.specs.Opening.{counts_said}
use Rattle.pack_counts.proofs.inner.counts_said.Given as goal

abbrev pub invariant-loop-digit : goal.invariant-loop-digit
invariant-loop-digit l = counts_said l.pack 0 l.n-items ≡ counts_said l.pack l.digit (drop l.digit l.n-items)
