-- Assumes nothing.
use Rattle.std.proofs.Common.{arith}
use Rattle.std.proofs.lemmas.Grind.{common_steps}
use Rattle.pack.specs.Opening.{all_counts_good}
use Rattle.pack_counts.proofs.inner.counts_good.Goals as goal

pub returns-then-not-has_counts : goal.returns-then-not-has_counts
unfolding all_counts_good
returns-then-not-has_counts c = grind (arith, common_steps)

pub returns : goal.returns
unfolding all_counts_good
returns c = grind (arith, common_steps)
