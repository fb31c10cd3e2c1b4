use Rattle.std.proofs.Common.{ℕ, ◌+◌, List, length, sym, ap, ap₂, ◌∙◌, arith}
use Rattle.source.specs.declared.DeliveryPoint.{DeliveryPoint}
use Rattle.changes_source.specs.Rows.{table_stock}
use Rattle.changes_source.proofs.Table.{table_fits}
use Rattle.label.proofs.Puts.{room_as, put_as}
use Rattle.label.proofs.Going.{going_start, going-as, going_end}
use Rattle.build.specs.Plan.{Packed, organisation_row, organisation_rows}
use Rattle.build.specs.Bytes.{point_with, point_in, points_in}
use Rattle.build.proofs.Walks.{organisations-length, point-room, point-on}
use Rattle.changes_whole.proofs.Rows.{rows-found}
use Rattle.changes_build.specs.Views.{packed_at, packed_in}
use Rattle.changes_build.proofs.Packed.{packed_from, packed_start, packed_wanted, packed_other, packed-end, view-within}
use Rattle.changes_build.proofs.walks.points_at.Goals as goal

pub loop-place-init : goal.loop-place-init
loop-place-init c =
    let a = c.args in
    let points = a.points.now in
    let whole = points_in (table_stock a.table.now) points points a.starts.now a.start in
    let same = packed_start points a.code.now in
    record {
      rows = omega (arith, c.requires.code_bound, ap (λ (ds : List Packed). length (organisation_rows points ds)) same);
      going = going-as (ap whole same) (going_start (whole (packed_in points a.code.now)) a.out.now a.at);
    }

pub rows_by-found-requires : goal.rows_by-found-requires
rows_by-found-requires c = rw c.table_shelf-s.ensures (table_fits, c.requires.known.filled)

pub point_at-end-requires : goal.point_at-end-requires
point_at-end-requires c =
    let a = c.args in
    let points = a.points.now in
    let code = a.code.now in
    let i = c.loop-place.place in
    let d = packed_at points i in
    let rest = packed_from points code (i + 1) in
    let wanted = sym (rw c.point_record.ensures at c.is_wanted.ensures) ∙ c.if-not-is_wanted.false in
    let step = packed_wanted points code i (omega arith) wanted in
    let starts = a.starts.now in
    let st = table_stock a.table.now in
    let left = going-as (ap (points_in st points points starts c.loop-place.row) step) c.loop-place.invariant.going in
    let found = rows-found a.table.now c.requires.known.of_table d.point c.table_shelf-s.ensures c.delivery_at-p.ensures c.rows_by-found.ensures in
    let same = ap (λ (os : List ℕ). point_with points c.delivery_at-p.result os c.loop-place.row) c.key_offsets-offsets.ensures
    ∙ ap₂ (λ (p : DeliveryPoint) (rows : List ℕ). point_in points starts p rows c.loop-place.row) c.delivery_at-p.ensures found in
    let here = view-within points i (omega arith) in
    record {
      fields_within = rw c.delivery_at-p.ensures (record { postcode = here.postcode; suffix = here.suffix; box = here.box });
      row_in_bounds = room_as c.loop-place.out c.loop-place.end same (point-room d rest c.requires.code_in_bounds st points points starts c.loop-place.row left);
    }

pub organisation_len-row-requires : goal.organisation_len-row-requires
organisation_len-row-requires c =
    rw c.delivery_at-p.ensures (view-within c.args.points.now c.loop-place.place (omega arith)).organisation

pub overflow_add-row : goal.overflow_add-row
overflow_add-row c =
    let a = c.args in
    let points = a.points.now in
    let code = a.code.now in
    let i = c.loop-place.place in
    let d = packed_at points i in
    let rest = packed_from points code (i + 1) in
    let wanted = sym (rw c.point_record.ensures at c.is_wanted.ensures) ∙ c.if-not-is_wanted.false in
    let step = packed_wanted points code i (omega arith) wanted in
    let more = organisations-length points d rest step in
    let len = c.organisation_len-row.ensures.0 ∙ ap (λ (p : DeliveryPoint). length (organisation_row points p)) c.delivery_at-p.ensures in
    omega (arith, more, len, c.loop-place.invariant.rows)

pub loop-place-preserved : goal.loop-place-preserved
loop-place-preserved c =
    let a = c.args in
    let points = a.points.now in
    let code = a.code.now in
    let i = c.loop-place.place in
    let d = packed_at points i in
    let rest = packed_from points code (i + 1) in
    let wanted = sym (rw c.point_record.ensures at c.is_wanted.ensures) ∙ c.if-not-is_wanted.false in
    let step = packed_wanted points code i (omega arith) wanted in
    let more = organisations-length points d rest step in
    let len = c.organisation_len-row.ensures.0 ∙ ap (λ (p : DeliveryPoint). length (organisation_row points p)) c.delivery_at-p.ensures in
    let starts = a.starts.now in
    let st = table_stock a.table.now in
    let left = going-as (ap (points_in st points points starts c.loop-place.row) step) c.loop-place.invariant.going in
    let found = rows-found a.table.now c.requires.known.of_table d.point c.table_shelf-s.ensures c.delivery_at-p.ensures c.rows_by-found.ensures in
    let same = ap (λ (os : List ℕ). point_with points c.delivery_at-p.result os c.loop-place.row) c.key_offsets-offsets.ensures
    ∙ ap₂ (λ (p : DeliveryPoint) (rows : List ℕ). point_in points starts p rows c.loop-place.row) c.delivery_at-p.ensures found in
    record {
      rows = omega (arith, more, len, c.loop-place.invariant.rows);
      going =
          point-on d rest c.requires.code_in_bounds st points points starts c.loop-place.row left len (put_as same c.point_at-end.ensures);
    }

pub loop-place-preserved-then-not-is_wanted : goal.loop-place-preserved-then-not-is_wanted
loop-place-preserved-then-not-is_wanted c =
    let a = c.args in
    let points = a.points.now in
    let other = sym (rw c.point_record.ensures at c.is_wanted.ensures) ∙ c.if-not-is_wanted.true in
    let same = packed_other points a.code.now c.loop-place.place (omega arith) other in
    record {
      rows = omega (arith, ap (λ (ds : List Packed). length (organisation_rows points ds)) same, c.loop-place.invariant.rows);
      going = going-as (ap (points_in (table_stock a.table.now) points points a.starts.now c.loop-place.row) same) c.loop-place.invariant.going;
    }

pub returns : goal.returns
returns c =
    let a = c.args in
    let points = a.points.now in
    let end = packed-end points a.code.now c.loop-place.place (omega arith) in
    going_end (going-as (ap (points_in (table_stock a.table.now) points points a.starts.now c.loop-place.row) end) c.loop-place.invariant.going)
