use Rattle.shelf.specs.Shelf.{ref_at, last_of}
use Rattle.shelf.proofs.Search.{left-low, left-high}
use Rattle.shelf_find.proofs.search.upper_from.Goals as goal

pub loop-low-preserved-then-r-ref_at : goal.loop-low-preserved-then-r-ref_at
loop-low-preserved-then-r-ref_at c =
    let a = c.args in
    left-low (ref_at a.s a.file.now) a.r (last_of a.s a.file.now) c.loop-low.low c.loop-low.high c.loop-low.invariant
    c.loop-low-test.true (rw c.ref_at.ensures.0 at c.if-r-ref_at.true)

pub loop-low-preserved : goal.loop-low-preserved
loop-low-preserved c =
    let a = c.args in
    left-high (ref_at a.s a.file.now) a.r (last_of a.s a.file.now) c.loop-low.low c.loop-low.high c.loop-low.invariant
    c.loop-low-test.true (rw c.ref_at.ensures.0 at c.if-r-ref_at.false)
