-- Assumes nothing.
use Rattle.std.proofs.Common.{arith}
use Rattle.std.proofs.lemmas.Grind.{common_steps}
use Rattle.pack.specs.Opening.{plain_good}
use Rattle.pack_points.proofs.points.plain_good.Goals as goal

pub returns-then-not-numbers_good : goal.returns-then-not-numbers_good
unfolding plain_good
returns-then-not-numbers_good c = grind (arith, common_steps)

pub returns-then-not-marks : goal.returns-then-not-marks
unfolding plain_good
returns-then-not-marks c = grind (arith, common_steps)

pub returns : goal.returns
unfolding plain_good
returns c = grind (arith, common_steps)
