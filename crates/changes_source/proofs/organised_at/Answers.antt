use Rattle.std.proofs.Common.{rules}
use Rattle.changes_source.specs.Delivery.{delivery_at}
use Rattle.changes_source.proofs.organised_at.Goals as goal

pub returns : goal.returns
unfolding delivery_at
returns c = search rules
