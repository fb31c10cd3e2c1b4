use Rattle.std.proofs.Common.{◌+◌, arith}
use Rattle.label.proofs.Going.{going-as, going-room, going_step}
use Rattle.shelf.specs.Stock.{stock_of}
use Rattle.build.specs.Bytes.{used_at}
use Rattle.build.proofs.Laws.{rows_left, rows_step}
use Rattle.build_rows.proofs.used.rows_at.Goals as goal

pub used_at-end-requires : goal.used_at-end-requires
used_at-end-requires c =
    let a = c.args in
    let st = stock_of a.s a.file.now in
    let i = c.loop-i.i in (
      c.requires.0,
      going-room (used_at st a.starts.now i) (rows_left st a.starts.now (i + 1))
          (going-as (rows_step st a.starts.now i (omega arith)) c.loop-i.invariant) c.requires.1,
    )

pub loop-i-preserved : goal.loop-i-preserved
loop-i-preserved c =
    let a = c.args in
    let st = stock_of a.s a.file.now in
    let i = c.loop-i.i in
    going_step (rows_left st a.starts.now (i + 1)) (going-as (rows_step st a.starts.now i (omega arith)) c.loop-i.invariant)
    c.used_at-end.ensures c.requires.1
