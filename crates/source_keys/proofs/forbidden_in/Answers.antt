use Rattle.std.proofs.Common.{rules}
use Rattle.source.specs.Delivery.{forbidden_in}
use Rattle.source_keys.proofs.forbidden_in.Goals as goal

pub returns : goal.returns
unfolding forbidden_in
returns c = search rules
