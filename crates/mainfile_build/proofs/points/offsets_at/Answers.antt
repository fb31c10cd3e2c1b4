use Rattle.std.proofs.Common.{ap, ◌∙◌}
use Rattle.source.specs.declared.DeliveryPoint.{DeliveryPoint}
use Rattle.source.specs.Delivery.{asked_of}
use Rattle.mainfile.specs.Set.{set_of}
use Rattle.mainfile_source.specs.Rows.{rows_by, kind_found}
use Rattle.mainfile_build.proofs.Laws.{rows-placed, offsets-placed}
use Rattle.mainfile_build.proofs.points.offsets_at.Goals as goal

pub offsets_of-requires : goal.offsets_of-requires
offsets_of-requires c =
    let a = c.args in
    let files = set_of a.localities.now a.thoroughfares.now a.descriptors.now a.buildings.now a.sub_buildings.now a.organisations.now a.addresses.now in
    let are = c.kind_rows-found.ensures ∙ ap (λ (p : DeliveryPoint). rows_by (kind_found files) (asked_of p)) c.delivery_at-p.ensures in
    rows-placed files c.requires.placed a.i c.requires.first_le_i.0 c.requires.first_le_i.1 c.kind_rows-found.result.rows are

pub returns : goal.returns
returns c =
    let a = c.args in
    let files = set_of a.localities.now a.thoroughfares.now a.descriptors.now a.buildings.now a.sub_buildings.now a.organisations.now a.addresses.now in
    let are = c.kind_rows-found.ensures ∙ ap (λ (p : DeliveryPoint). rows_by (kind_found files) (asked_of p)) c.delivery_at-p.ensures in
    c.offsets_of.ensures
    ∙ offsets-placed files c.requires.placed a.i c.requires.first_le_i.0 c.requires.first_le_i.1 c.kind_rows-found.result.rows are
    c.delivery_at-p.ensures
