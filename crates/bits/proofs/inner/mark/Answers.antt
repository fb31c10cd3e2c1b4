-- `bits::inner::mark` meets its contract. Assumes nothing.
use Rattle.bits.proofs.Laws.{mark_set}
use Rattle.bits.proofs.inner.mark.Goals as goal

pub returns-then-j-bits : goal.returns-then-j-bits
returns-then-j-bits c = λ o l. mark_set c.args.bits.now c.args.at c.if-j-bits.true o
