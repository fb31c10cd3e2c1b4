-- Assumes nothing.
use Rattle.std.proofs.Common.{arith}
use Rattle.std.proofs.lemmas.Grind.{common_steps}
use Rattle.pack_points.specs.Ready.{rest_good}
use Rattle.pack_points.proofs.points.point_good.Goals as goal

pub returns-then-not-postcode_good : goal.returns-then-not-postcode_good
unfolding rest_good
returns-then-not-postcode_good c = grind (arith, common_steps)

pub returns-then-not-plain_good : goal.returns-then-not-plain_good
unfolding rest_good
returns-then-not-plain_good c = grind (arith, common_steps)

pub returns : goal.returns
unfolding rest_good
returns c = grind (arith, common_steps)
