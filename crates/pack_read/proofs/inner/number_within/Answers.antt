-- Assumes nothing.
use Rattle.pack.specs.Numbers.{number_at}
use Rattle.pack_read.proofs.Numbers.{part-below}
use Rattle.pack_read.proofs.inner.number_within.Goals as goal

pub returns : goal.returns
unfolding number_at
returns c = (c.number_in.ensures.0, part-below _ _ _ _ c.number_in.ensures.1)
