use Rattle.std.proofs.Common.{arith}
use Rattle.mainfile_ends.specs.Ends.{zeros_named}
use Rattle.mainfile_ends.proofs.zeros_named.Goals as goal

pub returns : goal.returns
unfolding zeros_named
returns c = grind arith
