-- `label_length::inner::line_len` meets its contract: nothing of no text, and else the text and its end.
-- Assumes nothing.
use borrow.Author.Rules.{rules}
use mathlib.Core.Path.{sym, ap, ◌∙◌}
use native.Mathlib.Omega.{arith}
use lib.ListN.{length, length-append}
use Rattle.label.specs.Spans.{text_in2}
use Rattle.label.proofs.Places.{line-none, line-some}
use Rattle.label_length.proofs.inner.line_len.Statement.{statement}
use Rattle.label_length.proofs.inner.line_len.Tie as tie

returns : tie.Need-returns-then-n-eq0
returns c =
    let g = c.args in
    let t = text_in2 g.a.now g.b.now g.s in
    (ap length (line-none t (sym c.text_len-n.ensures.0 ∙ c.if-n-eq0.true)), omega arith)

returns-2 : tie.Need-returns-else-n-eq0
returns-2 c =
    let text = c.text_len-n.ensures in
    let g = c.args in
    let t = text_in2 g.a.now g.b.now g.s in
    let made = line-some t (λ z. c.if-n-eq0.false (text.0 ∙ z)) in
    (omega (arith, simp length-append at (ap length made), text.0), omega (arith, text.1))

pub line_len_spec : {M : Type 1} → statement M
line_len_spec =
    tie.close (tie.spec (search rules) (search rules) returns returns-2)
