use Rattle.std.proofs.Common.{arith}
use Rattle.file_compare.proofs.Orderings.{above_ordering}
use Rattle.file.proofs.sequence.is_front_above.Goals as goal

pub returns : goal.returns
returns c = grind (arith, above_ordering)
