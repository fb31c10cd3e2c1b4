-- Assumes nothing.
use Rattle.pack.specs.Numbers.{number_at}
use Rattle.pack_read.proofs.Numbers.{part-below}
use Rattle.pack_read.proofs.inner.number_at.Goals as goal

pub returns : goal.returns
unfolding number_at
returns c =
    let read = rw c.part_of.ensures at c.number_in.ensures in
    (read.0, part-below _ _ _ _ read.1)
