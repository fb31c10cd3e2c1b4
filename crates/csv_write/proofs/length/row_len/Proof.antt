-- `csv_write::length::row_len` meets its contract. Assumes nothing.
use borrow.Author.Rules.{rules}
use mathlib.Core.Path.{refl}
use native.Mathlib.Omega.{arith}
use Rattle.label.proofs.Walk.{three-sized}
use Rattle.csv_write.proofs.Pieces.{row_made}
use Rattle.csv_write.proofs.length.row_len.Statement.{statement}
use Rattle.csv_write.proofs.length.row_len.Tie as tie

returns : tie.Need-returns
returns c x =
    let places = c in
    let g = places.args in
    (three-sized {w = 9} {n = 4096} (row_made g.a.now g.b.now g.e x) places.places_len-i.ensures
    c.premises_len.ensures (refl, omega arith) (omega arith)).0

pub row_len_spec : {M : Type 1} → statement M
row_len_spec =
    tie.close (tie.spec (search rules) (search rules) (search rules) (search rules) returns)
