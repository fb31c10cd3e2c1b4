-- `csv_write::carried::places_plain` meets its contract. Assumes nothing.
use borrow.Author.Rules.{rules}
use Rattle.label.specs.Spans.{elements_in}
use Rattle.csv_write.specs.Carried.{places_plain}
use Rattle.csv_write.proofs.carried.places_plain.Statement.{statement}
use Rattle.csv_write.proofs.carried.places_plain.Tie as tie

returns : tie.Need-returns
unfolding places_plain elements_in
returns c =
    let dependent = c in
    let descriptor = dependent in
    let thoroughfare = descriptor in
    let double = thoroughfare in
    let locality = double in
    let town = locality in
    rw (
      town.is_plain-town.ensures,
      locality.is_plain-dependent_locality.ensures,
      double.is_plain-double_locality.ensures,
      thoroughfare.is_plain-thoroughfare.ensures,
      descriptor.is_plain-descriptor.ensures,
      dependent.is_plain-dependent.ensures,
      c.is_plain-beside.ensures,
    )

pub places_plain_spec : {M : Type 1} → statement M
places_plain_spec =
    tie.close
    (tie.spec (search rules) (search rules) (search rules) (search rules) (search rules) (search rules) (search rules)
    returns)
