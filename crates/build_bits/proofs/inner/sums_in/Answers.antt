use Rattle.std.proofs.Common.{◌+◌, ◌≤◌, arith}
use Rattle.shelf.specs.Stock.{stock_of}
use Rattle.build_bits.specs.Marks.{shelf_marks}
use Rattle.build_bits.proofs.Walks.{walked_start, walked_row, next-walked, next-marked, next_low, next-high}
use Rattle.build_bits.proofs.inner.sums_in.Goals as goal

pub loop-i-init : goal.loop-i-init
loop-i-init c =
    let a = c.args in
    let st = stock_of a.s a.file.now in
    let h = c.requires.fit.1 in
    rw c.next_marked-i.ensures
    (record {
      walked = next-walked st a.bits.now a.from a.to h.1.0 h.1.1 h.0 (walked_start st (shelf_marks a.s a.file.now a.bits.now) a.from);
      within = next-high st a.bits.now a.from a.to h.1.0 h.1.1;
      marked = next-marked st a.bits.now a.from a.to h.1.0 h.1.1;
    })

pub loop-i-smaller : goal.loop-i-smaller
loop-i-smaller c =
    let a = c.args in
    let low = next_low (stock_of a.s a.file.now) a.bits.now (c.loop-i.i + 1) a.to (omega arith) c.requires.fit.1.1.1 in
    omega (arith, c.next_marked-i-in-loop-i.ensures, low)

pub loop-i-preserved : goal.loop-i-preserved
loop-i-preserved c =
    let a = c.args in
    let st = stock_of a.s a.file.now in
    let i = c.loop-i.i + 1 in
    let h = c.requires.fit.1 in
    let inv = c.loop-i.invariant in
    let row = c.row_len-bytes in
    let further : i ≤ a.to = omega arith in
    let w = walked_row h.0 inv.walked row.result (inv.marked c.loop-i-test.true) row.ensures.0 row.ensures.1 in
    rw c.next_marked-i-in-loop-i.ensures
    (record {
      walked = next-walked st a.bits.now i a.to further h.1.1 h.0 w;
      within = next-high st a.bits.now i a.to further h.1.1;
      marked = next-marked st a.bits.now i a.to further h.1.1;
    })
