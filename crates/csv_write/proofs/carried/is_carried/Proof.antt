-- `csv_write::carried::is_carried` meets its contract. Assumes nothing.
use borrow.Author.Rules.{rules}
use Rattle.label.specs.Spans.{elements_in}
use Rattle.csv_write.proofs.Plain.{carried-parts}
use Rattle.csv_write.proofs.carried.is_carried.Statement.{statement}
use Rattle.csv_write.proofs.carried.is_carried.Tie as tie

returns : tie.Need-returns
unfolding elements_in
returns c =
    let street = c in
    let premises = street in
    let places = premises in
    let g = places.args in
    rw (
      places.places_plain-places.ensures,
      premises.premises_plain-premises.ensures,
      street.street_fits-street.ensures,
      c.street_fits-beside.ensures,
    ) (carried-parts (elements_in g.a.now g.b.now g.e))

pub is_carried_spec : {M : Type 1} → statement M
is_carried_spec =
    tie.close (tie.spec (search rules) (search rules) (search rules) (search rules) returns)
