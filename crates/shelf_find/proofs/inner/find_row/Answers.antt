use Rattle.std.proofs.Common.{rules}
use Rattle.shelf.specs.Search.{found}
use Rattle.shelf_find.proofs.inner.find_row.Goals as goal

pub returns : goal.returns
unfolding found
returns c = search rules
