use Rattle.std.proofs.Common.{cond, length, ap, ◌∙◌, arith}
use Rattle.source.specs.declared.DeliveryPoint.{DeliveryPoint}
use Rattle.build.specs.Plan.{organisation_row}
use Rattle.build.proofs.Walks.{summing_start, summing-as, summing_on, summing-end}
use Rattle.book_build.specs.Chosen.{packed_all}
use Rattle.book_build.proofs.Packed.{packed_step, packed-end, inside-at, within-at}
use Rattle.book_build.proofs.walks.organisations_in.Goals as goal

pub loop-start-init : goal.loop-start-init
loop-start-init c =
    let a = c.args in
    record { few = omega arith; small = omega arith; summing = summing_start a.book.now (packed_all a.book.now a.chosen.now) }

pub delivery_from-p-requires : goal.delivery_from-p-requires
delivery_from-p-requires c = inside-at c.args.book.now c.args.chosen.now c.requires.inside c.loop-start.start-index (omega arith)

pub organisation_len-bytes-requires : goal.organisation_len-bytes-requires
organisation_len-bytes-requires c =
    rw c.delivery_from-p.ensures
    (within-at c.args.book.now c.args.chosen.now c.requires.inside c.loop-start.start-index (omega arith)).organisation

pub loop-start-preserved : goal.loop-start-preserved
loop-start-preserved c =
    let book = c.args.book.now in
    let step = packed_step book c.args.chosen.now c.loop-start.start-index (omega arith) in
    let one = c.one_if-rows.ensures.0 ∙ ap (λ (p : DeliveryPoint). cond p.organised 1 0) c.delivery_from-p.ensures in
    let len = c.organisation_len-bytes.ensures.0 ∙ ap (λ (p : DeliveryPoint). length (organisation_row book p)) c.delivery_from-p.ensures in
    record {
      few = omega arith;
      small = omega arith;
      summing = summing_on (summing-as step c.loop-start.invariant.summing) one len;
    }

pub returns-clause-rows : goal.returns-clause-rows
returns-clause-rows c =
    let end = packed-end c.args.book.now c.args.chosen.now c.loop-start.start-index (omega arith) in
    (summing-end (summing-as end c.loop-start.invariant.summing)).0

pub returns-clause-bytes : goal.returns-clause-bytes
returns-clause-bytes c =
    let end = packed-end c.args.book.now c.args.chosen.now c.loop-start.start-index (omega arith) in
    (summing-end (summing-as end c.loop-start.invariant.summing)).1
