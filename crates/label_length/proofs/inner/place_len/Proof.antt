-- `label_length::inner::place_len` meets its contract: nothing of no name, and else the front, the name, what stands beside it and the end.
-- Assumes nothing.
use borrow.Author.Rules.{rules}
use mathlib.Core.Path.{sym, ap, ◌∙◌}
use native.Mathlib.Omega.{arith}
use lib.ListN.{length, length-append}
use Rattle.label.specs.Put.{front_text}
use Rattle.label.specs.Spans.{text_in2}
use Rattle.label.proofs.Places.{place_none}
use Rattle.label.proofs.Pieces.{place-made}
use Rattle.label_length.proofs.inner.place_len.Statement.{statement}
use Rattle.label_length.proofs.inner.place_len.Tie as tie

returns : tie.Need-returns-then-n-eq0
returns c =
    let g = c.args in
    let text = text_in2 g.a.now g.b.now in (
      ap length
          (place_none g.f.pending (front_text g.a.now g.b.now g.f) (text g.name) (text g.tail)
          (sym c.text_len-n.ensures.0 ∙ c.if-n-eq0.true)),
      omega arith,
    )

returns-2 : tie.Need-returns
returns-2 c =
    let lead = c.lead_len-m.ensures in
    let some = c in
    let name = some.text_len-n.ensures in
    let tail = c.tail_len.ensures in
    let g = some.args in
    let made = place-made g.a.now g.b.now g.f g.name g.tail (λ z. some.if-n-eq0.false (name.0 ∙ z)) in (
      omega (arith, simp length-append at (ap length made.is), name.0, lead.0, tail.0),
      omega (arith, name.1, lead.1, tail.1),
    )

pub place_len_spec : {M : Type 1} → statement M
place_len_spec =
    tie.close
    (tie.spec (search rules) returns (search rules) (search rules) (search rules) (search rules) (search rules)
    returns-2)
