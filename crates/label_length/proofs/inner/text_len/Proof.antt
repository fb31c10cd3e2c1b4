-- `label_length::inner::text_len` meets its contract: a span says at most 255. Assumes nothing.
use borrow.Author.Rules.{rules}
use mathlib.Core.Path.{ap}
use native.Mathlib.Omega.{arith}
use lib.ListN.{length}
use Rattle.label.proofs.Texts.{text-short}
use Rattle.label_length.proofs.inner.text_len.Statement.{statement}
use Rattle.label_length.proofs.inner.text_len.Tie as tie

returns : tie.Need-returns
returns c =
    let g = c.args in
    let is = ap length c.text_of-t.ensures in
    (is, omega (arith, is, text-short g.a.now g.b.now g.s))

pub text_len_spec : {M : Type 1} → statement M
text_len_spec = tie.close (tie.spec (search rules) returns)
