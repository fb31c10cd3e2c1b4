use Rattle.std.proofs.Common.{arith}
use Rattle.changes_views.specs.Views.{wanted_count, wanted_in}
use Rattle.changes_views.proofs.count_wanted.Goals as goal

pub returns : goal.returns
unfolding wanted_count wanted_in
returns c = grind arith
