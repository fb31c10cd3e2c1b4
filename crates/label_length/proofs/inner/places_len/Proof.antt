-- `label_length::inner::places_len` meets its contract: two thoroughfares and the localities, with the front before the first that there is.
-- Assumes nothing.
use borrow.Author.Rules.{rules}
use native.Mathlib.Omega.{arith}
use Rattle.label.proofs.Pieces.{places-made}
use Rattle.label.proofs.Walk.{three-sized}
use Rattle.label_length.proofs.inner.places_len.Statement.{statement}
use Rattle.label_length.proofs.inner.places_len.Tie as tie

returns : tie.Need-returns
returns c =
    let street = c in
    let dependent = street in
    let later = dependent in
    let after = later in
    let g = after.args in
    three-sized
    (places-made g.a.now g.b.now g.f g.e after.front_after-g.ensures later.front_after-h.ensures)
    dependent.place_len-i.ensures street.place_len-j.ensures c.localities_len.ensures (omega arith)

pub places_len_spec : {M : Type 1} → statement M
places_len_spec =
    tie.close
    (tie.spec (search rules) (search rules) (search rules) (search rules) (search rules) (search rules)
    (search rules) returns)
