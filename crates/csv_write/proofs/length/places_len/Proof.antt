-- `csv_write::length::places_len` meets its contract. Assumes nothing.
use borrow.Author.Rules.{rules}
use native.Mathlib.Omega.{arith}
use Rattle.csv_write.proofs.Sizes.{places-size}
use Rattle.csv_write.proofs.length.places_len.Statement.{statement}
use Rattle.csv_write.proofs.length.places_len.Tie as tie

returns : tie.Need-returns
returns c =
    let street = c in
    let double = street in
    let dependent = double in
    let town = dependent in
    let inward = town in
    let outward = inward in
    let g = outward.args in
    let size = places-size g.a.now g.b.now g.e in (
      omega (
        arith,
        size,
        outward.text_len-outward.ensures.0,
        inward.text_len-inward.ensures.0,
        town.text_len-town.ensures.0,
        dependent.text_len-dependent.ensures.0,
        double.text_len-double.ensures.0,
        street.street_len-street.ensures.0,
        c.street_len-beside.ensures.0,
      ),
      omega (
        arith,
        outward.text_len-outward.ensures.1,
        inward.text_len-inward.ensures.1,
        town.text_len-town.ensures.1,
        dependent.text_len-dependent.ensures.1,
        double.text_len-double.ensures.1,
        street.street_len-street.ensures.1,
        c.street_len-beside.ensures.1,
      ),
    )

pub places_len_spec : {M : Type 1} → statement M
places_len_spec =
    tie.close
    (tie.spec (search rules) (search rules) (search rules) (search rules) (search rules) (search rules) (search rules)
    (search rules) (search rules) (search rules) (search rules) (search rules) (search rules) (search rules) returns)
