-- `source_spans::inner::own_span_if` meets its contract. Assumes nothing.
use borrow.Author.Rules.{rules}
use Rattle.source_spans.proofs.inner.own_span_if.Statement.{statement}
use Rattle.source_spans.proofs.inner.own_span_if.Tie as tie

returns : tie.Need-returns-then-there
returns c = λ first. rw (c.own_span.ensures first) (simp c.if-there.true)

returns-2 : tie.Need-returns-else-there
returns-2 c =
    let e = c in
    λ first. rw (c.no_span.ensures first e.args.own.now) (simp c.if-there.false)

pub own_span_if_spec : {M : Type 1} → statement M
own_span_if_spec = tie.close (tie.spec (λ c κs. search rules) (λ c κs. search rules) returns returns-2)
