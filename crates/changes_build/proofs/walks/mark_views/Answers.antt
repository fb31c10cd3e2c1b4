use Rattle.std.proofs.Common.{ℕ, List, length, sym, ap, ap₂, ◌∙◌, arith, rules, of_calls}
use Rattle.refusal.proofs.Passed.{passed-on}
use Rattle.refusal.proofs.Verdicts.{bad-fine}
use Rattle.source.specs.Delivery.{asked_of, refusal_in}
use Rattle.changes_source.proofs.Table.{table_fits}
use Rattle.build.specs.Plan.{mark_rows}
use Rattle.build.proofs.Walks.{marking-start, marking-as, marking-on, marking-end}
use Rattle.changes_whole.proofs.Rows.{rows-found, found_below}
use Rattle.changes_build.specs.Views.{packed_at}
use Rattle.changes_build.proofs.Packed.{packed_start, packed_wanted, packed_other, packed-end}
use Rattle.changes_build.proofs.Stopped.{fine-before, stopped}
use Rattle.changes_build.proofs.walks.mark_views.Goals as goal

pub loop-place-init : goal.loop-place-init
loop-place-init c = marking-as (packed_start c.args.points.now c.args.code.now) (marking-start _ _ _)

pub rows_by-found-requires : goal.rows_by-found-requires
rows_by-found-requires c = rw c.table_shelf-s.ensures (table_fits, c.requires.0.filled)

pub mark_point-requires : goal.mark_point-requires
mark_point-requires c =
    found_below c.args.table.now c.requires.0.of_table (length c.loop-place.marks) (asked_of c.delivery_at-p.result)
    (omega arith) c.table_shelf-s.ensures c.rows_by-found.ensures

pub returns-in_err-map_err : goal.returns-in_err-map_err
returns-in_err-map_err c =
    let points = c.args.points.now in
    let i = c.loop-place.place-counter in
    let d = packed_at points i in
    let rows = rows-found c.args.table.now c.requires.0.of_table d.point c.table_shelf-s.ensures c.delivery_at-p.ensures c.rows_by-found.ensures in
    let told = c.mark_point.ensures.said ∙ ap₂ refusal_in c.delivery_at-p.ensures rows in
    let wanted = sym (rw c.point_record.ensures at c.is_wanted.ensures) ∙ c.if-not-is_wanted.false in
    let left = marking-as (packed_wanted points c.args.code.now i (omega arith) wanted) c.loop-place.invariant in
    let why = stopped c.mark_point.result c.map_err.result _ c.map_err.ensures.cases (λ e x q. search (of_calls, rules)) told left c.in_err-map_err.was in
    let is = passed-on c.from_residual.result _ c.from_residual.ensures.1 in
    record { said = is ∙ sym why; marks_all = λ e. absurd (bad-fine _ (sym is ∙ e)) }

pub loop-place-preserved : goal.loop-place-preserved
loop-place-preserved c =
    let points = c.args.points.now in
    let i = c.loop-place.place-counter in
    let d = packed_at points i in
    let rows = rows-found c.args.table.now c.requires.0.of_table d.point c.table_shelf-s.ensures c.delivery_at-p.ensures c.rows_by-found.ensures in
    let told = c.mark_point.ensures.said ∙ ap₂ refusal_in c.delivery_at-p.ensures rows in
    let wanted = sym (rw c.point_record.ensures at c.is_wanted.ensures) ∙ c.if-not-is_wanted.false in
    let left = marking-as (packed_wanted points c.args.code.now i (omega arith) wanted) c.loop-place.invariant in
    let clean = fine-before c.mark_point.result c.map_err.result _ c.map_err.ensures.cases c.in_ok-map_err.was in
    marking-on left (sym told ∙ clean) (c.mark_point.ensures.marked clean ∙ ap (λ (rs : List ℕ). mark_rows rs c.loop-place.marks) rows)

pub loop-place-preserved-then-not-is_wanted : goal.loop-place-preserved-then-not-is_wanted
loop-place-preserved-then-not-is_wanted c =
    let other = sym (rw c.point_record.ensures at c.is_wanted.ensures) ∙ c.if-not-is_wanted.true in
    marking-as (packed_other c.args.points.now c.args.code.now c.loop-place.place-counter (omega arith) other) c.loop-place.invariant

pub returns : goal.returns
returns c =
    let end = packed-end c.args.points.now c.args.code.now c.loop-place.place-counter (omega arith) in
    let done = marking-end (marking-as end c.loop-place.invariant) in
    record { said = done.0; marks_all = λ e. done.1 }
