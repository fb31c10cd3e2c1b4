use Rattle.std.proofs.Common.{arith}
use Rattle.std.proofs.lemmas.List.{take_rest}
use Rattle.file_compare.proofs.Orderings.{slice_ordering}
use Rattle.file_compare.proofs.order_of.Goals as goal

pub returns : goal.returns
returns c = grind (arith, take_rest, slice_ordering)
