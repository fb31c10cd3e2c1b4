use Rattle.std.proofs.Common.{◌≡◌, ◌+◌, ◌-◌, ◌<◌, ℕ, suc, List, length, drop, sym, ap, ◌∙◌, arith}
use lib.ListN.{length-drop, drop_of_length-le}
use lib.Seq.{drop-length}
use Rattle.csv_paf.specs.File.{rows_of}
use Rattle.csv_paf.specs.Ask.{kth_of}
use Rattle.csv_label.specs.Shown.{row_from}
use Rattle.csv_label.proofs.RowLaws.{kth-none, kth-zero, kth-first, kth-behind}
use Rattle.csv_label.proofs.places.row_place.Goals as goal

pub returns-then-row-eq0 : goal.returns-then-row-eq0
returns-then-row-eq0 c =
    let csv = c.args.csv.now in (
      omega arith,
      ap row_from (drop-length csv) ∙ sym (ap (kth_of (rows_of csv)) c.if-row-eq0.true ∙ kth-zero (rows_of csv)),
    )

pub returns-then-csv-at : goal.returns-then-csv-at
returns-then-csv-at c =
    let left = c.args.row - c.loop.counter + 1 in
    let end = drop_of_length-le c.args.csv.now {i = c.loop.at} c.if-csv-at.true in (
      c.loop.invariant.0,
      ap row_from end
          ∙ (sym (ap (λ (s : List ℕ). kth_of (rows_of s) left) end ∙ kth-none left) ∙ c.loop.invariant.1),
    )

pub loop-preserved : goal.loop-preserved
loop-preserved c =
    let here = drop c.loop.at c.args.csv.now in
    let k = c.args.row - c.loop.counter - 1 in
    let some : 0 < length here = omega (arith, c.if-csv-at.false, length-drop c.loop.at c.args.csv.now) in
    let left : suc (suc k) ≡ c.args.row - c.loop.counter + 1 = omega arith in
    let less : c.args.row - (c.loop.counter + 1) + 1 ≡ suc k = omega arith in (
      c.row_behind-at.ensures.0,
      rw (less, c.row_behind-at.ensures.1.1)
          (sym (kth-behind here k some) ∙ (ap (kth_of (rows_of here)) left ∙ c.loop.invariant.1)),
    )

pub returns : goal.returns
returns c =
    let here = drop c.loop.at c.args.csv.now in
    let one : 1 ≡ c.args.row - c.loop.counter + 1 = omega arith in
    (c.loop.invariant.0, kth-first here ∙ (ap (kth_of (rows_of here)) one ∙ c.loop.invariant.1))
