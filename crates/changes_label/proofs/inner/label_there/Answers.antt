use native.Mathlib.Omega.{arith}
use lib.ListN.{length}
use mathlib.Core.Path.{sym, ap, ap₂, ◌∙◌}
use Rattle.std.proofs.Common.{◌<◌, ◌/◌}
use Prim.Native.Nat.{suc}
use Rattle.refusal.proofs.Passed.{said-passed}
use Rattle.source.specs.Delivery.{refusal_in}
use Rattle.source.specs.Resolve.{Resolved}
use Rattle.label.specs.Label.{resolved_outcome}
use Rattle.changes_source.proofs.Table.{table_fits}
use Rattle.changes_meaning.proofs.Says.{within-at}
use Rattle.changes_meaning.proofs.Meant.{resolved-fine, resolved-bad}
use Rattle.changes_label.proofs.Laws.{rows_as, elements-as}
use Rattle.changes_label.proofs.inner.label_there.Goals as goal

pub rows_of-found-requires : goal.rows_of-found-requires
rows_of-found-requires c = rw c.table_shelf-s.ensures table_fits

pub spans_of-requires : goal.spans_of-requires
spans_of-requires c =
    let high : suc c.args.place < length c.args.points.now / 168 = omega (arith, c.requires.1) in
    (rw c.table_shelf-s.ensures table_fits, rw c.delivery_at-p.ensures (within-at c.args.points.now c.args.place high))

pub returns : goal.returns
returns c =
    let rows = c.rows_of-found.ensures ∙ rows_as _ _ c.args.table.now c.args.points.now c.args.place c.table_shelf-s.ensures
    c.delivery_at-p.ensures in
    let verdict = c.refusal_in.ensures ∙ ap₂ refusal_in c.delivery_at-p.ensures rows in
    let spans = c.spans_of.ensures ∙ elements-as c.args.table.now c.args.points.now c.table_shelf-s.ensures
    c.delivery_at-p.ensures rows in
    rw spans at c.print_label.ensures
    ∙ sym
    (ap (λ (r : Resolved). resolved_outcome r c.args.out.now)
    (resolved-fine c.args.table.now c.args.points.now c.requires.0 c.args.place c.requires.1 0
    (sym verdict ∙ c.in_ok-refusal_in.was)))

pub returns-in_err-refusal_in : goal.returns-in_err-refusal_in
returns-in_err-refusal_in c =
    let rows = c.rows_of-found.ensures ∙ rows_as _ _ c.args.table.now c.args.points.now c.args.place c.table_shelf-s.ensures
    c.delivery_at-p.ensures in
    let verdict = c.refusal_in.ensures ∙ ap₂ refusal_in c.delivery_at-p.ensures rows in
    said-passed _ c.from_residual.ensures.1
    ∙ sym
    (ap (λ (r : Resolved). resolved_outcome r c.args.out.now)
    (resolved-bad c.args.table.now c.args.points.now c.requires.0 c.args.place c.requires.1 0 c.in_err-refusal_in.field-0.0
    (sym verdict ∙ c.in_err-refusal_in.was)))
