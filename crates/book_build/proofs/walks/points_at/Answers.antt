use Rattle.std.proofs.Common.{ℕ, ◌+◌, List, length, get_or, ap, ap₂, ◌∙◌, arith}
use Rattle.source.specs.declared.DeliveryPoint.{DeliveryPoint}
use Rattle.changes_source.specs.Rows.{table_stock}
use Rattle.changes_source.proofs.Table.{table_fits}
use Rattle.label.proofs.Puts.{room_as, put_as}
use Rattle.label.proofs.Going.{going-as, going_end}
use Rattle.build.specs.Plan.{organisation_row}
use Rattle.build.specs.Bytes.{point_with, point_in, points_in}
use Rattle.build.proofs.Walks.{organisations-length, point-room, point-on}
use Rattle.changes_whole.proofs.Rows.{rows-found}
use Rattle.book_build.specs.Chosen.{packed_from}
use Rattle.book_build.proofs.Packed.{packed_rest, packed_step, packed-end, inside-at, within-at}
use Rattle.book_build.proofs.walks.points_at.Goals as goal

pub delivery_from-p-requires : goal.delivery_from-p-requires
delivery_from-p-requires c =
    inside-at c.args.book.now c.args.chosen.now c.requires.known.of_chosen.inside c.loop-from.from-index (omega arith)

pub rows_by-found-requires : goal.rows_by-found-requires
rows_by-found-requires c = rw c.table_shelf-s.ensures (table_fits, c.requires.known.filled)

pub point_at-end-requires : goal.point_at-end-requires
point_at-end-requires c =
    let a = c.args in
    let book = a.book.now in
    let chosen = a.chosen.now in
    let starts = a.starts.now in
    let st = table_stock a.table.now in
    let i = c.loop-from.from-index in
    let d = packed_from book (get_or chosen i 0) in
    let here = within-at book chosen c.requires.known.of_chosen.inside i (omega arith) in
    let left = going-as (ap (points_in st book book starts c.loop-from.row) (packed_step book chosen i (omega arith))) c.loop-from.invariant.going in
    let found = rows-found a.table.now c.requires.known.of_table d.point c.table_shelf-s.ensures c.delivery_from-p.ensures c.rows_by-found.ensures in
    let same = ap (λ (os : List ℕ). point_with book c.delivery_from-p.result os c.loop-from.row) c.key_offsets-offsets.ensures
    ∙ ap₂ (λ (p : DeliveryPoint) (rows : List ℕ). point_in book starts p rows c.loop-from.row) c.delivery_from-p.ensures found in
    record {
      fields_within = rw c.delivery_from-p.ensures (record { postcode = here.postcode; suffix = here.suffix; box = here.box });
      row_in_bounds =
          room_as c.loop-from.out c.loop-from.end same
          (point-room d (packed_rest book chosen (i + 1)) c.requires.chosen_in_bounds st book book starts c.loop-from.row left);
    }

pub organisation_len-row-requires : goal.organisation_len-row-requires
organisation_len-row-requires c =
    rw c.delivery_from-p.ensures
    (within-at c.args.book.now c.args.chosen.now c.requires.known.of_chosen.inside c.loop-from.from-index (omega arith)).organisation

pub overflow_add-row : goal.overflow_add-row
overflow_add-row c =
    let book = c.args.book.now in
    let chosen = c.args.chosen.now in
    let i = c.loop-from.from-index in
    let more = organisations-length book (packed_from book (get_or chosen i 0)) (packed_rest book chosen (i + 1)) (packed_step book chosen i (omega arith)) in
    let len = c.organisation_len-row.ensures.0 ∙ ap (λ (p : DeliveryPoint). length (organisation_row book p)) c.delivery_from-p.ensures in
    omega (arith, more, len, c.loop-from.invariant.rows)

pub loop-from-preserved : goal.loop-from-preserved
loop-from-preserved c =
    let a = c.args in
    let book = a.book.now in
    let chosen = a.chosen.now in
    let starts = a.starts.now in
    let st = table_stock a.table.now in
    let i = c.loop-from.from-index in
    let d = packed_from book (get_or chosen i 0) in
    let rest = packed_rest book chosen (i + 1) in
    let step = packed_step book chosen i (omega arith) in
    let more = organisations-length book d rest step in
    let len = c.organisation_len-row.ensures.0 ∙ ap (λ (p : DeliveryPoint). length (organisation_row book p)) c.delivery_from-p.ensures in
    let left = going-as (ap (points_in st book book starts c.loop-from.row) step) c.loop-from.invariant.going in
    let found = rows-found a.table.now c.requires.known.of_table d.point c.table_shelf-s.ensures c.delivery_from-p.ensures c.rows_by-found.ensures in
    let same = ap (λ (os : List ℕ). point_with book c.delivery_from-p.result os c.loop-from.row) c.key_offsets-offsets.ensures
    ∙ ap₂ (λ (p : DeliveryPoint) (rows : List ℕ). point_in book starts p rows c.loop-from.row) c.delivery_from-p.ensures found in
    record {
      rows = omega (arith, more, len, c.loop-from.invariant.rows);
      going =
          point-on d rest c.requires.chosen_in_bounds st book book starts c.loop-from.row left len
          (put_as same c.point_at-end.ensures);
    }

pub returns : goal.returns
returns c =
    let a = c.args in
    let end = packed-end a.book.now a.chosen.now c.loop-from.from-index (omega arith) in
    going_end (going-as (ap (points_in (table_stock a.table.now) a.book.now a.book.now a.starts.now c.loop-from.row) end) c.loop-from.invariant.going)
