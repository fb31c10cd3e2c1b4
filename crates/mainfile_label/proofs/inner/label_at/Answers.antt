use native.Mathlib.Omega.{arith}
use lib.ListN.{length}
use mathlib.Core.Path.{sym, ap, ap₂, ◌∙◌}
use Rattle.std.proofs.Common.{◌<◌, ◌/◌}
use Rattle.refusal.proofs.Passed.{said-passed}
use Rattle.source.specs.Address.{Elements}
use Rattle.source.specs.declared.DeliveryPoint.{DeliveryPoint}
use Rattle.source.specs.Delivery.{asked_of, refusal_in}
use Rattle.label.specs.Label.{label_of, room_outcome}
use Rattle.mainfile.specs.Set.{set_of}
use Rattle.mainfile_source.specs.Rows.{rows_by, kind_found}
use Rattle.mainfile_source.proofs.Joined.{two_records}
use Rattle.mainfile_meaning.specs.Elements.{elements_at}
use Rattle.mainfile_meaning.proofs.Says.{inside-at}
use Rattle.mainfile_meaning.proofs.Meant.{resolved-fine, resolved-bad}
use Rattle.mainfile_label.proofs.Laws.{no_place, some-place}
use Rattle.mainfile_label.proofs.inner.label_at.Goals as goal

pub returns-then-place-eq0 : goal.returns-then-place-eq0
returns-then-place-eq0 c =
    let set = set_of c.args.localities.now c.args.thoroughfares.now c.args.descriptors.now c.args.buildings.now
    c.args.sub_buildings.now c.args.organisations.now c.args.addresses.now in
    rw c.into.ensures (sym (no_place set c.args.place c.args.out.now (omega arith)))

pub print_from-requires : goal.print_from-requires
print_from-requires c =
    let high : c.args.place < length c.args.addresses.now / 88 = omega (arith, c.requires.high) in
    rw c.delivery_at-p.ensures
    (inside-at c.args.addresses.now c.args.organisations.now c.args.place high
    (omega (arith, two_records _ _ c.requires.accepted.organisations)))

pub returns : goal.returns
returns c =
    let set = set_of c.args.localities.now c.args.thoroughfares.now c.args.descriptors.now c.args.buildings.now
    c.args.sub_buildings.now c.args.organisations.now c.args.addresses.now in
    let high : c.args.place < length c.args.addresses.now / 88 = omega (arith, c.requires.high) in
    let rows = c.kind_rows-found.ensures
    ∙ ap (λ (p : DeliveryPoint). rows_by (kind_found set) (asked_of p)) c.delivery_at-p.ensures in
    let verdict = c.refusal_in.ensures ∙ ap₂ refusal_in c.delivery_at-p.ensures rows in
    let resolved = resolved-fine set c.requires.accepted c.args.place high 0 (sym verdict ∙ c.in_ok-refusal_in.was) in
    c.print_from.ensures
    ∙ (ap (λ (e : Elements). room_outcome (label_of e) c.args.out.now)
    (ap₂ (elements_at set) c.delivery_at-p.ensures rows)
    ∙ sym (some-place set c.args.place c.args.out.now (λ z. omega arith) _ resolved))

pub returns-in_err-refusal_in : goal.returns-in_err-refusal_in
returns-in_err-refusal_in c =
    let set = set_of c.args.localities.now c.args.thoroughfares.now c.args.descriptors.now c.args.buildings.now
    c.args.sub_buildings.now c.args.organisations.now c.args.addresses.now in
    let high : c.args.place < length c.args.addresses.now / 88 = omega (arith, c.requires.high) in
    let rows = c.kind_rows-found.ensures
    ∙ ap (λ (p : DeliveryPoint). rows_by (kind_found set) (asked_of p)) c.delivery_at-p.ensures in
    let verdict = c.refusal_in.ensures ∙ ap₂ refusal_in c.delivery_at-p.ensures rows in
    let resolved = resolved-bad set c.requires.accepted c.args.place high 0 c.in_err-refusal_in.field-0.0
    (sym verdict ∙ c.in_err-refusal_in.was) in
    said-passed _ c.from_residual.ensures.1
    ∙ sym (some-place set c.args.place c.args.out.now (λ z. omega arith) _ resolved)
