use Rattle.std.proofs.Common.{◌+◌, sym, ap, ap₂, ◌∙◌, arith}
use Rattle.label.proofs.Puts.{put_as}
use Rattle.label.proofs.Going.{going_start, going-as, going_end}
use Rattle.build.specs.Plan.{organisation_bytes, organisation_rows}
use Rattle.build.proofs.Walks.{organisation-room, organisation-on}
use Rattle.changes_build.specs.Views.{packed_at, packed_in}
use Rattle.changes_build.proofs.Packed.{packed_from, packed_start, packed_wanted, packed_other, packed-end, view-within}
use Rattle.changes_build.proofs.walks.organisations_at.Goals as goal

pub loop-place-init : goal.loop-place-init
loop-place-init c =
    let points = c.args.points.now in
    let code = c.args.code.now in
    going-as (ap (organisation_rows points) (packed_start points code))
    (going_start (organisation_rows points (packed_in points code)) c.args.out.now c.args.at)

pub organisation_at-end-requires : goal.organisation_at-end-requires
organisation_at-end-requires c =
    let points = c.args.points.now in
    let code = c.args.code.now in
    let i = c.loop-place.place in
    let wanted = sym (rw c.point_record.ensures at c.is_wanted.ensures) ∙ c.if-not-is_wanted.false in
    let step = packed_wanted points code i (omega arith) wanted in
    rw (c.organised_at-there.ensures, c.organisation_place-texts.ensures)
    (record {
      texts_in_bounds = (view-within points i (omega arith)).organisation;
      texts_in_bounds_2 =
          organisation-room (packed_at points i) (packed_from points code (i + 1)) c.requires points
          (going-as (ap (organisation_rows points) step) c.loop-place.invariant);
    })

pub loop-place-preserved : goal.loop-place-preserved
loop-place-preserved c =
    let points = c.args.points.now in
    let code = c.args.code.now in
    let i = c.loop-place.place in
    let wanted = sym (rw c.point_record.ensures at c.is_wanted.ensures) ∙ c.if-not-is_wanted.false in
    let step = packed_wanted points code i (omega arith) wanted in
    organisation-on (packed_at points i) (packed_from points code (i + 1)) c.requires points
    (going-as (ap (organisation_rows points) step) c.loop-place.invariant)
    (put_as (ap₂ (organisation_bytes points) c.organised_at-there.ensures c.organisation_place-texts.ensures) c.organisation_at-end.ensures)

pub loop-place-preserved-then-not-is_wanted : goal.loop-place-preserved-then-not-is_wanted
loop-place-preserved-then-not-is_wanted c =
    let points = c.args.points.now in
    let other = sym (rw c.point_record.ensures at c.is_wanted.ensures) ∙ c.if-not-is_wanted.true in
    going-as (ap (organisation_rows points) (packed_other points c.args.code.now c.loop-place.place (omega arith) other))
    c.loop-place.invariant

pub returns : goal.returns
returns c =
    let points = c.args.points.now in
    let end = packed-end points c.args.code.now c.loop-place.place (omega arith) in
    going_end (going-as (ap (organisation_rows points) end) c.loop-place.invariant)
