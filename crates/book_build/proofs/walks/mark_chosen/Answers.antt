use Rattle.std.proofs.Common.{ℕ, List, length, get_or, sym, ap, ap₂, ◌∙◌, arith, rules, of_calls}
use Rattle.refusal.proofs.Passed.{passed-on}
use Rattle.refusal.proofs.Verdicts.{bad-fine}
use Rattle.source.specs.Delivery.{asked_of, refusal_in}
use Rattle.changes_source.proofs.Table.{table_fits}
use Rattle.build.specs.Plan.{mark_rows}
use Rattle.build.proofs.Walks.{marking-as, marking-on, marking-end}
use Rattle.changes_whole.proofs.Rows.{rows-found, found_below}
use Rattle.book_build.specs.Chosen.{packed_from}
use Rattle.book_build.proofs.Packed.{packed_step, packed-end, inside-at}
use Rattle.book_build.proofs.Stopped.{fine-before, stopped}
use Rattle.book_build.proofs.walks.mark_chosen.Goals as goal

pub delivery_from-p-requires : goal.delivery_from-p-requires
delivery_from-p-requires c =
    inside-at c.args.book.now c.args.chosen.now c.requires.known.of_chosen.inside c.loop-start.start-index (omega arith)

pub rows_by-found-requires : goal.rows_by-found-requires
rows_by-found-requires c = rw c.table_shelf-s.ensures (table_fits, c.requires.known.filled)

pub mark_point-requires : goal.mark_point-requires
mark_point-requires c =
    found_below c.args.table.now c.requires.known.of_table (length c.loop-start.marks) (asked_of c.delivery_from-p.result)
    (omega arith) c.table_shelf-s.ensures c.rows_by-found.ensures

pub returns : goal.returns
returns c =
    let end = packed-end c.args.book.now c.args.chosen.now c.loop-start.start-index (omega arith) in
    let done = marking-end (marking-as end c.loop-start.invariant) in
    record { said = done.0; marks_all = λ e. done.1 }

pub place_before-place-requires : goal.place_before-place-requires
place_before-place-requires c =
    inside-at c.args.book.now c.args.chosen.now c.requires.known.of_chosen.inside c.loop-start.start-index (omega arith)

pub returns-in_err-map_err : goal.returns-in_err-map_err
returns-in_err-map_err c =
    let book = c.args.book.now in
    let chosen = c.args.chosen.now in
    let i = c.loop-start.start-index in
    let d = packed_from book (get_or chosen i 0) in
    let rows = rows-found c.args.table.now c.requires.known.of_table d.point c.table_shelf-s.ensures c.delivery_from-p.ensures c.rows_by-found.ensures in
    let told = c.mark_point.ensures.said ∙ ap₂ refusal_in c.delivery_from-p.ensures rows in
    let left = marking-as (packed_step book chosen i (omega arith)) c.loop-start.invariant in
    let place = c.place_before-place.ensures in
    let why = stopped c.mark_point.result c.map_err.result _ c.map_err.ensures.cases (λ e x q. search (of_calls, rules)) told left c.in_err-map_err.was in
    let is = passed-on c.from_residual.result _ c.from_residual.ensures.1 in
    record { said = is ∙ sym why; marks_all = λ e. absurd (bad-fine _ (sym is ∙ e)) }

pub loop-start-preserved : goal.loop-start-preserved
loop-start-preserved c =
    let book = c.args.book.now in
    let chosen = c.args.chosen.now in
    let i = c.loop-start.start-index in
    let d = packed_from book (get_or chosen i 0) in
    let rows = rows-found c.args.table.now c.requires.known.of_table d.point c.table_shelf-s.ensures c.delivery_from-p.ensures c.rows_by-found.ensures in
    let told = c.mark_point.ensures.said ∙ ap₂ refusal_in c.delivery_from-p.ensures rows in
    let left = marking-as (packed_step book chosen i (omega arith)) c.loop-start.invariant in
    let clean = fine-before c.mark_point.result c.map_err.result _ c.map_err.ensures.cases c.in_ok-map_err.was in
    marking-on left (sym told ∙ clean) (c.mark_point.ensures.marked clean ∙ ap (λ (rs : List ℕ). mark_rows rs c.loop-start.marks) rows)
