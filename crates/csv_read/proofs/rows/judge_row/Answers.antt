use Rattle.std.proofs.Common.{sym, ◌∙◌, arith}
use Rattle.csv_read.proofs.Cut.{end-within}
use Rattle.csv_read.proofs.Reading.{reading-start, surplus, malformed, reading-on, reading-ends}
use Rattle.csv_read.proofs.rows.judge_row.Goals as goal

pub loop-n-init : goal.loop-n-init
loop-n-init c = reading-start c.args.csv.now c.args.at c.requires

pub returns-then-not-is_formed : goal.returns-then-not-is_formed
returns-then-not-is_formed c =
    let r = c.loop-n.invariant in
    let bad = rw (c.part_of-f.ensures, c.if-not-is_formed.true) at (c.is_formed.ensures _ r.last r.fields) in
    let told = malformed r c.loop-n-test.true _ c.field_end-end.ensures bad in
    record { is = omega (arith, told); some = omega arith }

pub ended_row-requires : goal.ended_row-requires
ended_row-requires c =
    (c.loop-n-test.true, omega (arith, c.field_end-end.ensures, end-within c.args.csv.now c.loop-n.start c.loop-n.invariant.within))

pub returns-then-byte_of-ne44 : goal.returns-then-byte_of-ne44
returns-then-byte_of-ne44 c =
    let r = c.loop-n.invariant in
    let good = rw (c.part_of-f.ensures, c.if-not-is_formed.false) at (c.is_formed.ensures _ r.last r.fields) in
    let fits = rw c.part_of-f.ensures at c.field_fits-fits.ensures in
    rw (c.ended_row.ensures, fits)
    (reading-ends r c.loop-n-test.true _ c.field_end-end.ensures good
    (λ z. c.if-byte_of-ne44.true (c.byte_of.ensures ∙ z)))

pub loop-n-preserved : goal.loop-n-preserved
loop-n-preserved c =
    let r = c.loop-n.invariant in
    let good = rw (c.part_of-f.ensures, c.if-not-is_formed.false) at (c.is_formed.ensures _ r.last r.fields) in
    let fits = rw c.part_of-f.ensures at c.field_fits-fits.ensures in
    let blank = rw c.part_of-f.ensures at c.all_are-alone.ensures in
    reading-on r c.loop-n-test.true _ c.field_end-end.ensures good
    (sym c.byte_of.ensures ∙ c.if-byte_of-ne44.false) blank fits

pub returns : goal.returns
returns c = record { is = omega (arith, surplus c.loop-n.invariant (omega arith)); some = omega arith }
