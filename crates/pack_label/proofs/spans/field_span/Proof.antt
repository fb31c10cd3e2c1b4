-- `pack_label::spans::field_span` meets its contract. Assumes nothing.
use borrow.Author.Rules.{rules}
use native.Mathlib.Omega.{arith}
use Rattle.field.proofs.Fronts.{text_in-bound, front-text}
use Rattle.pack_label.proofs.spans.field_span.Statement.{statement}
use Rattle.pack_label.proofs.spans.field_span.Tie as tie

cast-t6 : tie.Need-overflow_cast-result
cast-t6 c =
    let a = c.args in
    rw c.read_text-text.ensures (omega (arith, text_in-bound a.pack.now a.from a.to))

returns : tie.Need-returns
returns c =
    let a = c.args in
    λ rows. rw c.read_text-text.ensures (front-text a.pack.now a.from a.to)

pub field_span_spec : {M : Type 1} → statement M
field_span_spec = tie.close (tie.spec (λ c κs. search rules) cast-t6 returns)
