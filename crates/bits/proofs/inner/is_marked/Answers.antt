-- `bits::inner::is_marked` meets its contract. Assumes nothing.
use Rattle.std.proofs.Common.{refl}
use Rattle.bits.specs.Bits.{marked}
use Rattle.bits.proofs.inner.is_marked.Goals as goal

pub returns : goal.returns
unfolding marked
returns c = refl
