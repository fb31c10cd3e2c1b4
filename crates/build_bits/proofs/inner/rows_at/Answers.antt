use Rattle.std.proofs.Common.{◌+◌, ◌≤◌, ap, ◌∙◌, arith}
use Rattle.label.proofs.Going.{going_start, going-as, going-room, going_step}
use Rattle.bits.specs.Bits.{next_marked}
use Rattle.shelf.specs.Stock.{stock_of}
use Rattle.build.specs.Rows.{row_bytes_at}
use Rattle.build.specs.Bytes.{used_rows}
use Rattle.build.proofs.Laws.{rows_left}
use Rattle.build_bits.specs.Marks.{shelf_marks}
use Rattle.build_bits.proofs.Walks.{row-left, first-left, first_some, next-left, next_low, next-marked}
use Rattle.build_bits.proofs.inner.rows_at.Goals as goal

pub loop-i-init : goal.loop-i-init
loop-i-init c =
    let a = c.args in
    let st = stock_of a.s a.file.now in
    rw (c.next_marked-i.ensures ∙ ap (next_marked a.bits.now 1) c.last_of-last.ensures)
    (record {
      marked = λ h. first_some st a.bits.now (omega (arith, h));
      going =
          going-as (first-left st a.bits.now)
          (going_start (used_rows st (shelf_marks a.s a.file.now a.bits.now)) a.out.now a.at);
    })

pub row_at-end-requires : goal.row_at-end-requires
row_at-end-requires c =
    let a = c.args in
    let st = stock_of a.s a.file.now in
    let i = c.loop-i.i in
    let inv = c.loop-i.invariant in
    let left = going-as (row-left st a.bits.now i (omega arith) (inv.marked c.loop-i-test.true).1) inv.going in (
      c.requires.fit,
      going-room (row_bytes_at st i) (rows_left st (shelf_marks a.s a.file.now a.bits.now) (i + 1)) left c.requires.bits_in_bounds,
    )

pub loop-i-smaller : goal.loop-i-smaller
loop-i-smaller c =
    let a = c.args in
    let st = stock_of a.s a.file.now in
    let i = c.loop-i.i + 1 in
    let low = next_low st a.bits.now i st.last (omega arith) (omega arith) in
    omega (arith, c.next_marked-i-in-loop-i.ensures ∙ ap (next_marked a.bits.now i) c.last_of-last.ensures, low)

pub loop-i-preserved : goal.loop-i-preserved
loop-i-preserved c =
    let a = c.args in
    let st = stock_of a.s a.file.now in
    let i = c.loop-i.i in
    let inv = c.loop-i.invariant in
    let more : i + 1 ≤ st.last = omega arith in
    let all : st.last ≤ st.last = omega arith in
    let low = next_low st a.bits.now (i + 1) st.last more all in
    let left = going-as (row-left st a.bits.now i (omega arith) (inv.marked c.loop-i-test.true).1) inv.going in
    let done = going_step (rows_left st (shelf_marks a.s a.file.now a.bits.now) (i + 1)) left c.row_at-end.ensures c.requires.bits_in_bounds in
    rw (c.next_marked-i-in-loop-i.ensures ∙ ap (next_marked a.bits.now (i + 1)) c.last_of-last.ensures)
    (record {
      marked = λ h. (omega (arith, low), next-marked st a.bits.now (i + 1) st.last more all (omega (arith, h)));
      going = going-as (next-left st a.bits.now (i + 1) st.last more all (omega arith)) done;
    })
