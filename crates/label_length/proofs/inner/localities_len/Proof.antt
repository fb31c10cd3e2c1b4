-- `label_length::inner::localities_len` meets its contract: three places, with the front before the first that there is.
-- Assumes nothing.
use borrow.Author.Rules.{rules}
use native.Mathlib.Omega.{arith}
use Rattle.label.proofs.Pieces.{localities-made}
use Rattle.label.proofs.Walk.{three-sized}
use Rattle.label_length.proofs.inner.localities_len.Statement.{statement}
use Rattle.label_length.proofs.inner.localities_len.Tie as tie

returns : tie.Need-returns
returns c =
    let dependent = c in
    let double = dependent in
    let later = double in
    let after = later in
    let none = after in
    let g = none.args in
    three-sized
    (localities-made g.a.now g.b.now g.f g.e none.no_text-none.ensures after.front_after-g.ensures
    later.front_after-h.ensures)
    double.place_len-i.ensures dependent.place_len-j.ensures c.place_len.ensures (omega arith)

pub localities_len_spec : {M : Type 1} → statement M
localities_len_spec =
    tie.close
    (tie.spec (search rules) (search rules) (search rules) (search rules) (search rules) (search rules)
    (search rules) (search rules) returns)
