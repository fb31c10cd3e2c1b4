-- `mainfile_texts::places::spans_from` meets its contract. Assumes nothing.
use borrow.Author.Rules.{rules}
use Rattle.mainfile_texts.proofs.Spanned.{spans-are}
use Rattle.mainfile_texts.proofs.places.spans_from.Statement.{statement}
use Rattle.mainfile_texts.proofs.places.spans_from.Tie as tie

returns : tie.Need-returns
returns c =
    let at-13 = c in
    let at-12 = at-13 in
    let at-11 = at-12 in
    let at-10 = at-11 in
    let at_9 = at-10 in
    let at_8 = at_9 in
    let at_7 = at_8 in
    let at-6 = at_7 in
    let at_5 = at-6 in
    let at-4 = at_5 in
    let at-3 = at-4 in
    let at-2 = at-3 in
    let at_1 = at-2 in
    let a = at_1.args in
    spans-are a.own a.premises a.streets a.localities a.p
    at_1.span_at.result
    at-2.span_at-2.result
    at-3.span_at-3.result
    at-4.span_at-4.result
    at_5.span_at-5.result
    at-6.span_at-6.result
    at_7.span_at-7.result
    at_8.span_at-8.result
    at_9.span_at-9.result
    at-10.span_at-10.result
    at-11.span_at-11.result
    at-12.span_at-12.result
    at-13.span_at-13.result
    c.span_at-14.result
    at_1.span_at.ensures
    at-2.span_at-2.ensures
    at-3.span_at-3.ensures
    at-4.span_at-4.ensures
    at_5.span_at-5.ensures
    at-6.span_at-6.ensures
    at_7.span_at-7.ensures
    at_8.span_at-8.ensures
    at_9.span_at-9.ensures
    at-10.span_at-10.ensures
    at-11.span_at-11.ensures
    at-12.span_at-12.ensures
    at-13.span_at-13.ensures
    c.span_at-14.ensures

pub spans_from_spec : {M : Type 1} → statement M
spans_from_spec = tie.close (tie.spec (λ c. search rules) (λ c κs. search rules) (λ c. search rules) (λ c κs. search rules) (λ c. search rules) (λ c κs. search rules) (λ c. search rules) (λ c κs. search rules) (λ c. search rules) (λ c κs. search rules) (λ c. search rules) (λ c κs. search rules) (λ c. search rules) (λ c κs. search rules) (λ c. search rules) (λ c κs. search rules) (λ c. search rules) (λ c κs. search rules) (λ c. search rules) (λ c κs. search rules) (λ c. search rules) (λ c κs. search rules) (λ c. search rules) (λ c κs. search rules) (λ c. search rules) (λ c κs. search rules) (λ c. search rules) (λ c κs. search rules) returns)
