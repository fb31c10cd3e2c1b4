-- Assumes nothing.
use Rattle.std.proofs.Common.{arith}
use Rattle.std.proofs.lemmas.Grind.{common_steps}
use Rattle.pack.specs.Opening.{allowed_mix}
use Rattle.pack_points.proofs.points.allowed_mix.Goals as goal

pub returns : goal.returns
unfolding allowed_mix
returns c = grind (arith, common_steps)
