use Rattle.std.proofs.Common.{◌+◌, get_or, ap, arith}
use Rattle.label.proofs.Puts.{put_as}
use Rattle.label.proofs.Going.{going-as, going_end}
use Rattle.build.specs.Plan.{organisation_row, organisation_rows}
use Rattle.build.proofs.Walks.{organisation-room, organisation-on}
use Rattle.book_build.specs.Chosen.{packed_from}
use Rattle.book_build.proofs.Packed.{packed_rest, packed_step, packed-end, inside-at, within-at}
use Rattle.book_build.proofs.walks.organisations_at.Goals as goal

pub delivery_from-p-requires : goal.delivery_from-p-requires
delivery_from-p-requires c =
    inside-at c.args.book.now c.args.chosen.now c.requires.chosen.inside c.loop-start.start-index (omega arith)

pub organisation_at-end-requires : goal.organisation_at-end-requires
organisation_at-end-requires c =
    let book = c.args.book.now in
    let chosen = c.args.chosen.now in
    let i = c.loop-start.start-index in
    let step = packed_step book chosen i (omega arith) in
    rw c.delivery_from-p.ensures
    (record {
      texts_in_bounds = (within-at book chosen c.requires.chosen.inside i (omega arith)).organisation;
      texts_in_bounds_2 =
          organisation-room (packed_from book (get_or chosen i 0)) (packed_rest book chosen (i + 1)) c.requires.chosen_in_bounds book
          (going-as (ap (organisation_rows book) step) c.loop-start.invariant);
    })

pub loop-start-preserved : goal.loop-start-preserved
loop-start-preserved c =
    let book = c.args.book.now in
    let chosen = c.args.chosen.now in
    let i = c.loop-start.start-index in
    let step = packed_step book chosen i (omega arith) in
    organisation-on (packed_from book (get_or chosen i 0)) (packed_rest book chosen (i + 1)) c.requires.chosen_in_bounds book
    (going-as (ap (organisation_rows book) step) c.loop-start.invariant)
    (put_as (ap (organisation_row book) c.delivery_from-p.ensures) c.organisation_at-end.ensures)

pub returns : goal.returns
returns c =
    let end = packed-end c.args.book.now c.args.chosen.now c.loop-start.start-index (omega arith) in
    going_end (going-as (ap (organisation_rows c.args.book.now) end) c.loop-start.invariant)
