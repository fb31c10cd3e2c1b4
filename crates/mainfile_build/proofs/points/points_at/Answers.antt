use Rattle.std.proofs.Common.{ℕ, ◌+◌, ◌-◌, List, length, ap, ap₂, ◌∙◌, arith}
use Rattle.source.specs.declared.DeliveryPoint.{DeliveryPoint}
use Rattle.label.proofs.Puts.{room_as, put_as}
use Rattle.label.proofs.Going.{going_start, going-as, going_end}
use Rattle.build.specs.Plan.{Packed, organisation_row, organisation_rows}
use Rattle.build.specs.Bytes.{point_with, points_in}
use Rattle.build.proofs.Walks.{organisations-length, point-room, point-on}
use Rattle.mainfile.specs.Set.{set_of}
use Rattle.mainfile.specs.Rows.{set_stock}
use Rattle.mainfile_mark.specs.Packed.{packed_at, packed_by}
use Rattle.mainfile_mark.proofs.Packed.{packed_step, packed-end}
use Rattle.mainfile_build.specs.Written.{set_starts}
use Rattle.mainfile_build.proofs.Laws.{stop-few, packed-same, inside-stretch}
use Rattle.mainfile_build.proofs.points.points_at.Goals as goal

pub overflow_add-i-end : goal.overflow_add-i-end
overflow_add-i-end c =
    let a = c.args in
    let files = set_of a.localities.now a.thoroughfares.now a.descriptors.now a.buildings.now a.sub_buildings.now a.organisations.now a.addresses.now in
    omega (arith, stop-few files c.requires.placed)

pub loop-i-init : goal.loop-i-init
loop-i-init c =
    let a = c.args in
    let own = a.addresses.now in
    let others = a.organisations.now in
    let files = set_of a.localities.now a.thoroughfares.now a.descriptors.now a.buildings.now a.sub_buildings.now others own in
    let starts = set_starts files a.of_localities.now a.of_thoroughfares.now a.of_descriptors.now a.of_buildings.now a.of_sub_buildings.now in
    let same = packed-same files c.requires.placed in
    record {
      rows = omega (arith, c.requires.code_bound, ap (λ (ds : List Packed). length (organisation_rows others ds)) same);
      going = going-as (ap (points_in (set_stock files) own others starts a.start) same) (going_start _ a.out.now a.at);
    }

pub point_at-end-requires : goal.point_at-end-requires
point_at-end-requires c =
    let a = c.args in
    let own = a.addresses.now in
    let others = a.organisations.now in
    let files = set_of a.localities.now a.thoroughfares.now a.descriptors.now a.buildings.now a.sub_buildings.now others own in
    let starts = set_starts files a.of_localities.now a.of_thoroughfares.now a.of_descriptors.now a.of_buildings.now a.of_sub_buildings.now in
    let i = c.loop-i.i in
    let stop = a.first + a.many in
    let d = packed_at own others i in
    let rest = packed_by own others (i + 1) (stop - (i + 1)) in
    let here = inside-stretch files c.requires.placed i (omega arith) in
    let left = going-as (ap (points_in (set_stock files) own others starts c.loop-i.row) (packed_step own others i stop (omega arith))) c.loop-i.invariant.going in
    let same = ap₂ (λ (p : DeliveryPoint) (os : List ℕ). point_with own p os c.loop-i.row) c.delivery_at-p.ensures c.offsets_at-offsets.ensures in
    record {
      fields_within = rw c.delivery_at-p.ensures (record { postcode = here.postcode; suffix = here.suffix; box = here.box });
      row_in_bounds =
          room_as c.loop-i.out c.loop-i.end same
          (point-room d rest c.requires.start_in_bounds (set_stock files) own others starts c.loop-i.row left);
    }

pub organisation_len-row-requires : goal.organisation_len-row-requires
organisation_len-row-requires c =
    let a = c.args in
    let files = set_of a.localities.now a.thoroughfares.now a.descriptors.now a.buildings.now a.sub_buildings.now a.organisations.now a.addresses.now in
    rw c.delivery_at-p.ensures (inside-stretch files c.requires.placed c.loop-i.i (omega arith)).organisation

pub overflow_add-row : goal.overflow_add-row
overflow_add-row c =
    let a = c.args in
    let own = a.addresses.now in
    let others = a.organisations.now in
    let i = c.loop-i.i in
    let stop = a.first + a.many in
    let more = organisations-length others (packed_at own others i) (packed_by own others (i + 1) (stop - (i + 1))) (packed_step own others i stop (omega arith)) in
    let len = c.organisation_len-row.ensures.0 ∙ ap (λ (p : DeliveryPoint). length (organisation_row others p)) c.delivery_at-p.ensures in
    omega (arith, more, len, c.loop-i.invariant.rows)

pub loop-i-preserved : goal.loop-i-preserved
loop-i-preserved c =
    let a = c.args in
    let own = a.addresses.now in
    let others = a.organisations.now in
    let files = set_of a.localities.now a.thoroughfares.now a.descriptors.now a.buildings.now a.sub_buildings.now others own in
    let starts = set_starts files a.of_localities.now a.of_thoroughfares.now a.of_descriptors.now a.of_buildings.now a.of_sub_buildings.now in
    let i = c.loop-i.i in
    let stop = a.first + a.many in
    let d = packed_at own others i in
    let rest = packed_by own others (i + 1) (stop - (i + 1)) in
    let step = packed_step own others i stop (omega arith) in
    let more = organisations-length others d rest step in
    let len = c.organisation_len-row.ensures.0 ∙ ap (λ (p : DeliveryPoint). length (organisation_row others p)) c.delivery_at-p.ensures in
    let left = going-as (ap (points_in (set_stock files) own others starts c.loop-i.row) step) c.loop-i.invariant.going in
    let same = ap₂ (λ (p : DeliveryPoint) (os : List ℕ). point_with own p os c.loop-i.row) c.delivery_at-p.ensures c.offsets_at-offsets.ensures in
    record {
      rows = omega (arith, more, len, c.loop-i.invariant.rows);
      going =
          point-on d rest c.requires.start_in_bounds (set_stock files) own others starts c.loop-i.row left len
          (put_as same c.point_at-end.ensures);
    }

pub returns : goal.returns
returns c =
    let a = c.args in
    let own = a.addresses.now in
    let others = a.organisations.now in
    let files = set_of a.localities.now a.thoroughfares.now a.descriptors.now a.buildings.now a.sub_buildings.now others own in
    let starts = set_starts files a.of_localities.now a.of_thoroughfares.now a.of_descriptors.now a.of_buildings.now a.of_sub_buildings.now in
    let none = packed-end own others c.loop-i.i (a.first + a.many) (omega arith) in
    going_end (going-as (ap (points_in (set_stock files) own others starts c.loop-i.row) none) c.loop-i.invariant.going)
