use Rattle.std.proofs.Common.{arith}
use Rattle.file_ends.proofs.Identifiers.{is_identified}
use Rattle.mainfile_ends.specs.Ends.{address_trailer_ok}
use Rattle.mainfile_ends.proofs.address_trailer_ok.Goals as goal

pub returns : goal.returns
unfolding address_trailer_ok
returns c = grind (arith, is_identified)
