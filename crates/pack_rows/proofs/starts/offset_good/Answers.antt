-- Assumes nothing.
use Rattle.std.proofs.Common.{arith}
use Rattle.std.proofs.lemmas.Bool.Decides.{nat_tests}
use Rattle.pack.specs.Opening.{offset_good}
use Rattle.pack_rows.proofs.starts.offset_good.Goals as goal

pub returns-then-o-eq-ABSENT : goal.returns-then-o-eq-ABSENT
unfolding offset_good
returns-then-o-eq-ABSENT c = λ n s. grind (arith, nat_tests)

pub returns : goal.returns
unfolding offset_good
returns c = λ n s. let found = c.is_start-found.ensures n s in grind (arith, nat_tests)
