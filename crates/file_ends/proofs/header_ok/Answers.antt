use Rattle.std.proofs.Common.{arith}
use Rattle.file_compare.proofs.Orderings.{same_ordering}
use Rattle.file_ends.specs.Ends.{header_ok}
use Rattle.file_ends.proofs.Identifiers.{is_identified}
use Rattle.file_ends.proofs.header_ok.Goals as goal

pub returns : goal.returns
unfolding header_ok
returns c = grind (arith, is_identified, same_ordering)
