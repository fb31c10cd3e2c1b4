-- `label_length::inner::premises_len` meets its contract: a place with nothing before it, and a line.
-- Assumes nothing.
use borrow.Author.Rules.{rules}
use native.Mathlib.Omega.{arith}
use Rattle.label.proofs.Pieces.{premises-made}
use Rattle.label.proofs.Walk.{two_sized}
use Rattle.label_length.proofs.inner.premises_len.Statement.{statement}
use Rattle.label_length.proofs.inner.premises_len.Tie as tie

returns : tie.Need-returns
returns c =
    let upper = c in
    let none = upper in
    let g = none.args in
    two_sized (premises-made g.a.now g.b.now g.l none.no_front-none.ensures) upper.place_len-i.ensures
    c.line_len.ensures (omega arith)

pub premises_len_spec : {M : Type 1} → statement M
premises_len_spec =
    tie.close (tie.spec (search rules) (search rules) (search rules) (search rules) returns)
