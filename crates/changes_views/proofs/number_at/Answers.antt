use Rattle.std.proofs.Common.{arith}
use Rattle.changes_views.specs.Views.{view_number}
use Rattle.changes_views.proofs.number_at.Goals as goal

pub returns : goal.returns
unfolding view_number
returns c = grind arith
