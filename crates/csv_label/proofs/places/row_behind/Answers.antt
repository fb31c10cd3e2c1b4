use Rattle.std.proofs.Common.{sym, ◌∙◌, arith}
use Rattle.csv_label.proofs.RowLaws.{behind-stop, stop-high}
use Rattle.csv_label.proofs.places.row_behind.Goals as goal

pub returns-then-ends_row : goal.returns-then-ends_row
returns-then-ends_row c =
    let csv = c.args.csv.now in
    let ends = sym c.ends_row.ensures ∙ c.if-ends_row.true in (
      omega (arith, stop-high csv c.loop-i.i c.loop-i-test.true ends),
      (λ left. omega (arith, c.loop-i.invariant.0), behind-stop csv c.loop-i.i c.loop-i-test.true ends ∙ sym c.loop-i.invariant.1),
    )
