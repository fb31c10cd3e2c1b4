-- `pack_label::spans::offset_span` meets its contract. Assumes nothing.
use borrow.Author.Rules.{rules}
use Rattle.pack_label.proofs.SpanLaws.{offset-absent, offset-there}
use Rattle.pack_label.proofs.spans.offset_span.Statement.{statement}
use Rattle.pack_label.proofs.spans.offset_span.Tie as tie

returns : tie.Need-returns-then-o-eq-ABSENT
returns c =
    let o = c in
    let a = o.args in
    offset-absent a.pack.now a.rest a.i a.n o.offset_of-o.result o.offset_of-o.ensures.0 c.if-o-eq-ABSENT.true

returns-2 : tie.Need-returns
returns-2 c =
    let t = c in
    let e = t in
    let o = e in
    let s = o in
    let a = s.args in
    offset-there a.pack.now a.rows.now a.rest a.i a.n o.offset_of-o.result t.text_place-place.result
    c.byte_of.result s.requires.1.1.1 o.offset_of-o.ensures.0 e.if-o-eq-ABSENT.false t.text_place-place.ensures.0
    c.byte_of.ensures

pub offset_span_spec : {M : Type 1} → statement M
offset_span_spec =
    tie.close
    (tie.spec
    (λ c κs. search rules)
    returns
    (λ c. search rules)
    (λ c κs. search rules)
    (λ c. search rules)
    (λ c κs. search rules)
    returns-2)
