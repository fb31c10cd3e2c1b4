-- Assumes nothing.
use Rattle.std.proofs.Common.{arith}
use Rattle.std.proofs.lemmas.Grind.{common_steps}
use Rattle.pack.specs.Opening.{suffix_good}
use Rattle.pack_points.proofs.points.suffix_good.Goals as goal

pub returns-then-not-has_suffix : goal.returns-then-not-has_suffix
unfolding suffix_good
returns-then-not-has_suffix c = grind (arith, common_steps)

pub returns : goal.returns
unfolding suffix_good
returns c = grind (arith, common_steps)
