use Prim.Native.Nat.{◌<◌}
use mathlib.Core.Path.{sym, ◌∙◌}
use native.Mathlib.Omega.{arith}
use lib.ListN.{length}
use Rattle.label.specs.Spans.{elements_in}
use Rattle.label.proofs.Room.{counted-short, counted-written}
use Rattle.csv_write.specs.Pieces.{row_in}
use Rattle.csv_write.proofs.Written.{written-carried, written-not}
use Rattle.csv_write.proofs.print_row.Goals as goal

pub returns-then-out-needed : goal.returns-then-out-needed
returns-then-out-needed c =
    let short : length c.args.out.now < c.needed_of-needed.result = omega arith in
    let a = c.args in
    let row = row_in a.a.now a.b.now a.e a.x in
    rw c.into.ensures
    (counted-short row a.out.now ((c.needed_of-needed.ensures a.x).1 short) short
    ∙ written-carried row (elements_in a.a.now a.b.now a.e) a.out.now (sym c.is_carried.ensures ∙ c.if-is_carried.true))

pub returns-then-is_carried : goal.returns-then-is_carried
returns-then-is_carried c =
    let a = c.args in
    let row = row_in a.a.now a.b.now a.e a.x in
    counted-written row a.out.now ((c.needed_of-needed.ensures a.x).0 (omega arith)) c.write_row.ensures.size
    c.write_row.ensures.is
    ∙ written-carried row (elements_in a.a.now a.b.now a.e) a.out.now (sym c.is_carried.ensures ∙ c.if-is_carried.true)

pub returns : goal.returns
returns c =
    let a = c.args in
    rw c.into-2.ensures
    (written-not (row_in a.a.now a.b.now a.e a.x) (elements_in a.a.now a.b.now a.e) a.out.now
    (sym c.is_carried.ensures ∙ c.if-is_carried.false))
