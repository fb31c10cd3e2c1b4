-- `mainfile_label::inner::print_from` meets its contract. Assumes nothing.
use borrow.Author.Rules.{rules}
use Rattle.mainfile_texts.proofs.Whole.{gathered}
use Rattle.mainfile.specs.Set.{set_of}
use Rattle.mainfile_label.proofs.inner.print_from.Statement.{statement}
use Rattle.mainfile_label.proofs.inner.print_from.Tie as tie

returns : tie.Need-returns
returns c =
    let spans = c in
    let localities = spans in
    let streets = localities in
    let premises = streets in
    let own = premises in
    let a = own.args in
    let files =
    set_of a.localities.now a.thoroughfares.now a.descriptors.now a.buildings.now a.sub_buildings.now
    a.organisations.now a.addresses.now in
    rw (
      spans.spans_from-spans.ensures,
      gathered files a.p a.found.rows own.gather_own-own.ensures.0
          premises.gather_premises-premises.ensures.0 premises.gather_premises-premises.ensures.1
          streets.gather_streets-streets.ensures.0 streets.gather_streets-streets.ensures.1
          localities.gather_localities-places.ensures.0 localities.gather_localities-places.ensures.1,
    ) at c.print_label.ensures

pub print_from_spec : {M : Type 1} → statement M
print_from_spec =
    tie.close
    (tie.spec (search rules) (λ c κs. search rules) (search rules) (λ c κs. search rules) (search rules)
    (λ c κs. search rules) (search rules) (λ c κs. search rules) (λ c κs. search rules) (search rules)
    (λ c κs. search rules) (search rules) returns)
