use Rattle.std.proofs.Common.{Bool, cond, length, sym, ap, ap₂, ◌∙◌, arith}
use Rattle.build.specs.Plan.{organisation_bytes}
use Rattle.build.proofs.Walks.{summing_start, summing-as, summing_on, summing-end}
use Rattle.changes_build.specs.Views.{packed_in}
use Rattle.changes_build.proofs.Packed.{packed_start, packed_wanted, packed_other, packed-end, view-within}
use Rattle.changes_build.proofs.walks.organisations_in.Goals as goal

pub loop-place-init : goal.loop-place-init
loop-place-init c =
    let points = c.args.points.now in
    let code = c.args.code.now in
    record {
      summing = summing-as (packed_start points code) (summing_start points (packed_in points code));
      few = omega arith;
      small = omega arith;
    }

pub organisation_len-bytes-requires : goal.organisation_len-bytes-requires
organisation_len-bytes-requires c =
    rw c.organisation_place.ensures (view-within c.args.points.now c.loop-place.place (omega arith)).organisation

pub loop-place-preserved : goal.loop-place-preserved
loop-place-preserved c =
    let points = c.args.points.now in
    let wanted = sym (rw c.point_record.ensures at c.is_wanted.ensures) ∙ c.if-not-is_wanted.false in
    let step = packed_wanted points c.args.code.now c.loop-place.place (omega arith) wanted in
    let one = c.one_if-rows.ensures.0 ∙ ap (λ (t : Bool). cond t 1 0) c.organised_at-there.ensures in
    let len = c.organisation_len-bytes.ensures.0
    ∙ ap length (ap₂ (organisation_bytes points) c.organised_at-there.ensures c.organisation_place.ensures) in
    record {
      summing = summing_on (summing-as step c.loop-place.invariant.summing) one len;
      few = omega arith;
      small = omega arith;
    }

pub loop-place-preserved-then-not-is_wanted : goal.loop-place-preserved-then-not-is_wanted
loop-place-preserved-then-not-is_wanted c =
    let other = sym (rw c.point_record.ensures at c.is_wanted.ensures) ∙ c.if-not-is_wanted.true in
    record {
      summing = summing-as (packed_other c.args.points.now c.args.code.now c.loop-place.place (omega arith) other) c.loop-place.invariant.summing;
      few = omega arith;
      small = omega arith;
    }

pub returns-clause-rows : goal.returns-clause-rows
returns-clause-rows c =
    let end = packed-end c.args.points.now c.args.code.now c.loop-place.place (omega arith) in
    (summing-end (summing-as end c.loop-place.invariant.summing)).0

pub returns-clause-bytes : goal.returns-clause-bytes
returns-clause-bytes c =
    let end = packed-end c.args.points.now c.args.code.now c.loop-place.place (omega arith) in
    (summing-end (summing-as end c.loop-place.invariant.summing)).1
