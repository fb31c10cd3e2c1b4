use Rattle.std.proofs.Common.{arith}
use Rattle.file_ends.specs.Ends.{trailer_ok}
use Rattle.file_ends.proofs.Identifiers.{is_identified}
use Rattle.file_ends.proofs.trailer_ok.Goals as goal

pub returns : goal.returns
unfolding trailer_ok
returns c = grind (arith, is_identified)
