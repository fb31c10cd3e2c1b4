use native.Mathlib.Omega.{arith}
use lib.ListN.{length}
use Prim.Native.Nat.{suc}
use mathlib.Core.Path.{sym, ap₂, ◌∙◌}
use Rattle.std.proofs.Common.{◌<◌, ◌/◌}
use Rattle.refusal.proofs.Passed.{said-passed}
use Rattle.source.specs.Delivery.{refusal_in}
use Rattle.changes_source.specs.Rows.{table_lookup}
use Rattle.changes_source.specs.Addresses.{address_at}
use Rattle.changes_source.proofs.Table.{table_fits}
use Rattle.changes_meaning.proofs.Says.{within-at, says_at}
use Rattle.changes_meaning.proofs.Meant.{resolved-fine, resolved-bad}
use Rattle.changes_label.proofs.Laws.{rows_as, elements-as}
use Rattle.csv_write.proofs.Placed.{no_place, some-place, placed-written}
use Rattle.changes_csv.proofs.places.row_at.Goals as goal

pub returns-then-place-eq0 : goal.returns-then-place-eq0
returns-then-place-eq0 c =
    rw c.into.ensures
    (sym
    (no_place (table_lookup c.args.table.now) (address_at c.args.points.now 0 c.args.place) c.args.place c.args.out.now
    (omega arith)))

pub rows_of-found-requires : goal.rows_of-found-requires
rows_of-found-requires c = rw c.table_shelf-s.ensures table_fits

pub spans_of-requires : goal.spans_of-requires
spans_of-requires c =
    let high : suc c.args.place < length c.args.points.now / 168 = omega (arith, c.requires.high (λ z. omega arith)) in
    (rw c.table_shelf-s.ensures table_fits, rw c.delivery_at-p.ensures (within-at c.args.points.now c.args.place high))

pub ending_of-requires : goal.ending_of-requires
ending_of-requires c =
    let high : suc c.args.place < length c.args.points.now / 168 = omega (arith, c.requires.high (λ z. omega arith)) in
    rw c.delivery_at-p.ensures (within-at c.args.points.now c.args.place high).suffix

pub returns : goal.returns
returns c =
    let high : suc c.args.place < length c.args.points.now / 168 = omega (arith, c.requires.high (λ z. omega arith)) in
    let rows = c.rows_of-found.ensures ∙ rows_as _ _ c.args.table.now c.args.points.now c.args.place c.table_shelf-s.ensures
    c.delivery_at-p.ensures in
    let verdict = c.refusal_in.ensures ∙ ap₂ refusal_in c.delivery_at-p.ensures rows in
    let resolved = resolved-fine c.args.table.now c.args.points.now c.requires.of_table c.args.place
    (c.requires.high (λ z. omega arith)) 0 (sym verdict ∙ c.in_ok-refusal_in.was) in
    let spans = c.spans_of.ensures ∙ elements-as c.args.table.now c.args.points.now c.table_shelf-s.ensures
    c.delivery_at-p.ensures rows in
    rw spans at c.print_row.ensures
    ∙ placed-written (table_lookup c.args.table.now) (address_at c.args.points.now 0 c.args.place) c.args.place
    c.args.out.now c.args.points.now c.args.points.now (λ z. omega arith) (says_at c.args.points.now c.args.place high 0)
    (rw c.delivery_at-p.ensures at c.ending_of.ensures) resolved

pub returns-in_err-refusal_in : goal.returns-in_err-refusal_in
returns-in_err-refusal_in c =
    let rows = c.rows_of-found.ensures ∙ rows_as _ _ c.args.table.now c.args.points.now c.args.place c.table_shelf-s.ensures
    c.delivery_at-p.ensures in
    let verdict = c.refusal_in.ensures ∙ ap₂ refusal_in c.delivery_at-p.ensures rows in
    let resolved = resolved-bad c.args.table.now c.args.points.now c.requires.of_table c.args.place
    (c.requires.high (λ z. omega arith)) 0 c.in_err-refusal_in.field-0.0 (sym verdict ∙ c.in_err-refusal_in.was) in
    said-passed _ c.from_residual.ensures.1
    ∙ sym
    (some-place (table_lookup c.args.table.now) (address_at c.args.points.now 0 c.args.place) c.args.place c.args.out.now
    (λ z. omega arith) _ resolved)
