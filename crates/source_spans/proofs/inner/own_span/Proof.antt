-- `source_spans::inner::own_span` meets its contract. Assumes nothing.
use borrow.Author.Rules.{rules}
use Prim.Native.Nat.{◌+◌}
use native.Mathlib.Omega.{arith}
use Rattle.field.specs.Text.{part}
use Rattle.field.proofs.Fronts.{text_in-bound, front-text}
use Rattle.source_spans.proofs.Laws.{field-text}
use Rattle.source_spans.proofs.inner.own_span.Statement.{statement}
use Rattle.source_spans.proofs.inner.own_span.Tie as tie

cast-len : tie.Need-overflow_cast-result
cast-len c =
    let at_field = c in
    let at-start = at_field in
    let a = at-start.args in
    rw (c.read_text-text.ensures, at_field.part_of-field.ensures)
    (omega (arith, at-start.requires.0, text_in-bound (part a.own.now a.at (a.at + a.width)) 0 a.width))

returns : tie.Need-returns
returns c =
    let at_field = c in
    let a = at_field.args in
    λ first. rw (c.read_text-text.ensures, at_field.part_of-field.ensures, field-text a.own.now a.at a.width)
    (front-text a.own.now a.at (a.at + a.width))

pub own_span_spec : {M : Type 1} → statement M
own_span_spec =
    tie.close
    (tie.spec (λ c. search rules) (λ c κs. search rules) (λ c κs. search rules) cast-len returns)
