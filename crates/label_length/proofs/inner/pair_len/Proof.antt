-- `label_length::inner::pair_len` meets its contract: two texts, the space between them and the end.
-- Assumes nothing.
use borrow.Author.Rules.{rules}
use mathlib.Core.Path.{refl}
use native.Mathlib.Omega.{arith}
use Rattle.label.proofs.Pieces.{pair_made}
use Rattle.label.proofs.Walk.{four-sized}
use Rattle.label_length.proofs.inner.pair_len.Statement.{statement}
use Rattle.label_length.proofs.inner.pair_len.Tie as tie

returns : tie.Need-returns
returns c =
    let first = c.text_len-n.ensures in
    let second = c.text_len.ensures in
    let g = c.args in
    let made = pair_made g.a.now g.b.now g.s g.t in
    let size = four-sized {j = 1} {l = 1} made first.0 refl second.0 refl in
    (omega (arith, size), omega (arith, first.1, second.1))

pub pair_len_spec : {M : Type 1} → statement M
pair_len_spec =
    tie.close (tie.spec (search rules) (search rules) (search rules) (search rules) returns)
