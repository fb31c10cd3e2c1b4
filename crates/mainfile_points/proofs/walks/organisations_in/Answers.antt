use Rattle.std.proofs.Common.{◌+◌, cond, length, ap, ◌∙◌, arith}
use Rattle.source.specs.declared.DeliveryPoint.{DeliveryPoint}
use Rattle.build.specs.Plan.{organisation_row}
use Rattle.build.proofs.Walks.{summing_start, summing-as, summing_on, summing-end}
use Rattle.mainfile_meaning.proofs.Says.{inside-at}
use Rattle.mainfile_mark.specs.Packed.{packed_by}
use Rattle.mainfile_mark.proofs.Packed.{packed_start, packed_step, packed-end}
use Rattle.mainfile_points.proofs.walks.organisations_in.Goals as goal

pub loop-i-init : goal.loop-i-init
loop-i-init c =
    let a = c.args in
    let own = a.addresses.now in
    let others = a.organisations.now in
    record {
      summing =
          summing-as (packed_start own others a.first a.many) (summing_start others (packed_by own others a.first a.many));
      few = omega arith;
      small = omega arith;
    }

pub organisation_len-bytes-requires : goal.organisation_len-bytes-requires
organisation_len-bytes-requires c =
    rw c.delivery_at-p.ensures
    (inside-at c.args.addresses.now c.args.organisations.now c.loop-i.i (omega arith) c.requires.headed).organisation

pub loop-i-preserved : goal.loop-i-preserved
loop-i-preserved c =
    let a = c.args in
    let others = a.organisations.now in
    let step = packed_step a.addresses.now others c.loop-i.i (a.first + a.many) (omega arith) in
    let one = c.one_if-rows.ensures.0 ∙ ap (λ (p : DeliveryPoint). cond p.organised 1 0) c.delivery_at-p.ensures in
    let len = c.organisation_len-bytes.ensures.0 ∙ ap (λ (p : DeliveryPoint). length (organisation_row others p)) c.delivery_at-p.ensures in
    record {
      summing = summing_on (summing-as step c.loop-i.invariant.summing) one len;
      few = omega arith;
      small = omega arith;
    }

pub returns-clause-rows : goal.returns-clause-rows
returns-clause-rows c =
    let a = c.args in
    let none = packed-end a.addresses.now a.organisations.now c.loop-i.i (a.first + a.many) (omega arith) in
    (summing-end (summing-as none c.loop-i.invariant.summing)).0

pub returns-clause-bytes : goal.returns-clause-bytes
returns-clause-bytes c =
    let a = c.args in
    let none = packed-end a.addresses.now a.organisations.now c.loop-i.i (a.first + a.many) (omega arith) in
    (summing-end (summing-as none c.loop-i.invariant.summing)).1
