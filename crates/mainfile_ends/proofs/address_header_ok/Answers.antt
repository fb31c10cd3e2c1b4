use Rattle.std.proofs.Common.{arith}
use Rattle.file_ends.proofs.Identifiers.{is_identified}
use Rattle.mainfile_ends.specs.Ends.{address_header_ok}
use Rattle.mainfile_ends.proofs.address_header_ok.Goals as goal

pub returns : goal.returns
unfolding address_header_ok
returns c = grind (arith, is_identified)
