-- Assumes nothing.
use Rattle.std.proofs.Common.{◌≡◌, ◌∙◌, true, sym, arith}
use Rattle.pack.specs.Opening.{row_good}
use Rattle.pack_rows.proofs.RowLaws.{rows_step, row_within}
use Rattle.pack_rows.proofs.rows.rows_good.Goals as goal

pub loop-preserved : goal.loop-preserved
loop-preserved c =
    let rows = c.args.rows.now in
    let l = c.loop in
    let good : row_good rows l.low l.at ≡ true = sym c.row_good.ensures ∙ c.if-not-row_good.false in
    rw (c.row_end-end.ensures, c.byte_of-low.ensures) (
      row_within rows l.low l.at good,
      l.invariant.1 ∙ rows_step rows c.args.count l.counter l.low l.at (omega arith) good,
    )
