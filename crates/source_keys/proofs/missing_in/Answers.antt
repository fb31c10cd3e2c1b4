use Rattle.std.proofs.Common.{rules, tests}
use Rattle.source.specs.Delivery.{missing_in}
use Rattle.source_keys.proofs.missing_in.Goals as goal

pub returns-then-keys-eq0 : goal.returns-then-keys-eq0
unfolding missing_in
returns-then-keys-eq0 c = search (rules, tests)

pub returns : goal.returns
unfolding missing_in
returns c = search (rules, tests)
