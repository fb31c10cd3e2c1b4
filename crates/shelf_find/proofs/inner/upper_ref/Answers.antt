use Rattle.std.proofs.Common.{get_or}
use Rattle.shelf.proofs.Search.{left-all, left-low, left-high}
use Rattle.shelf_find.proofs.inner.upper_ref.Goals as goal

pub loop-low-init : goal.loop-low-init
loop-low-init c = left-all (λ i. get_or c.args.refs.now i 0) c.args.r c.args.last

pub loop-low-preserved-then-r-refs : goal.loop-low-preserved-then-r-refs
loop-low-preserved-then-r-refs c =
    left-low (λ i. get_or c.args.refs.now i 0) c.args.r c.args.last c.loop-low.low c.loop-low.high c.loop-low.invariant
    c.loop-low-test.true c.if-r-refs.true

pub loop-low-preserved : goal.loop-low-preserved
loop-low-preserved c =
    left-high (λ i. get_or c.args.refs.now i 0) c.args.r c.args.last c.loop-low.low c.loop-low.high c.loop-low.invariant
    c.loop-low-test.true c.if-r-refs.false
