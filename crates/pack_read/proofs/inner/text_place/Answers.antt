-- Assumes nothing.
use Rattle.std.proofs.Common.{◌≡◌, suc, ◌+◌, ◌-◌, arith}
use Rattle.pack_read.proofs.inner.text_place.Goals as goal

pub loop-preserved : goal.loop-preserved
loop-preserved c =
    let left : c.args.n - c.loop.counter ≡ suc (c.args.n - (c.loop.counter + 1)) = omega arith in
    let here = rw left at c.loop.invariant.1 in
    (omega arith, cc)
