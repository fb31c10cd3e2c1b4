use Rattle.std.proofs.Common.{arith}
use Rattle.mainfile_ends.specs.Ends.{nines_counted}
use Rattle.mainfile_ends.proofs.nines_counted.Goals as goal

pub returns : goal.returns
unfolding nines_counted
returns c = grind arith
