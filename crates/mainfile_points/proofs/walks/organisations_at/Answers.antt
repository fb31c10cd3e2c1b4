use Rattle.std.proofs.Common.{◌+◌, ◌-◌, ap, arith}
use Rattle.label.proofs.Puts.{put_as}
use Rattle.label.proofs.Going.{going_start, going-as, going_end}
use Rattle.build.specs.Plan.{organisation_row, organisation_rows}
use Rattle.build.proofs.Walks.{organisation-room, organisation-on}
use Rattle.mainfile_meaning.proofs.Says.{inside-at}
use Rattle.mainfile_mark.specs.Packed.{packed_at, packed_by}
use Rattle.mainfile_mark.proofs.Packed.{packed_start, packed_step, packed-end}
use Rattle.mainfile_points.proofs.walks.organisations_at.Goals as goal

pub loop-i-init : goal.loop-i-init
loop-i-init c =
    let a = c.args in
    let own = a.addresses.now in
    let others = a.organisations.now in
    going-as (ap (organisation_rows others) (packed_start own others a.first a.many))
    (going_start (organisation_rows others (packed_by own others a.first a.many)) a.out.now a.at)

pub organisation_at-to-requires : goal.organisation_at-to-requires
organisation_at-to-requires c =
    let a = c.args in
    let own = a.addresses.now in
    let others = a.organisations.now in
    let i = c.loop-i.i in
    let end = a.first + a.many in
    let step = packed_step own others i end (omega arith) in
    rw c.delivery_at-p.ensures
    (record {
      texts_in_bounds = (inside-at own others i (omega arith) c.requires.standing.headed).organisation;
      texts_in_bounds_2 =
          organisation-room (packed_at own others i) (packed_by own others (i + 1) (end - (i + 1))) c.requires.many_in_bounds others
          (going-as (ap (organisation_rows others) step) c.loop-i.invariant);
    })

pub loop-i-preserved : goal.loop-i-preserved
loop-i-preserved c =
    let a = c.args in
    let own = a.addresses.now in
    let others = a.organisations.now in
    let i = c.loop-i.i in
    let end = a.first + a.many in
    let step = packed_step own others i end (omega arith) in
    organisation-on (packed_at own others i) (packed_by own others (i + 1) (end - (i + 1))) c.requires.many_in_bounds others
    (going-as (ap (organisation_rows others) step) c.loop-i.invariant)
    (put_as (ap (organisation_row others) c.delivery_at-p.ensures) c.organisation_at-to.ensures)

pub returns : goal.returns
returns c =
    let a = c.args in
    let none = packed-end a.addresses.now a.organisations.now c.loop-i.i (a.first + a.many) (omega arith) in
    going_end (going-as (ap (organisation_rows a.organisations.now) none) c.loop-i.invariant)
