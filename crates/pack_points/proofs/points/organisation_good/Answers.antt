-- Assumes nothing.
use Rattle.std.proofs.Common.{arith}
use Rattle.std.proofs.lemmas.Grind.{common_steps}
use Rattle.pack.specs.Opening.{organisation_good}
use Rattle.pack_points.proofs.points.organisation_good.Goals as goal

pub returns : goal.returns
unfolding organisation_good
returns c = grind (arith, common_steps)
