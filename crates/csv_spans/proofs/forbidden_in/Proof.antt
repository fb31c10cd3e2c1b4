-- `csv_spans::forbidden_in` meets its contract. Assumes nothing.
use borrow.Author.Rules.{rules}
use mathlib.Core.Path.{◌≡◌, sym, ◌∙◌}
use mathlib.Core.Bool.{false, not}
use mathlib.Core.List.{List}
use Prim.Native.Nat.{ℕ}
use lib.Dec.{eqb}
use Rattle.source.specs.Address.{present}
use Rattle.source.specs.Resolve.{forbidden_of}
use Rattle.label.specs.declared.Span.{Span}
use Rattle.label.specs.Spans.{text_in2, elements_in}
use Rattle.csv_paf.specs.Ask.{forbidden_in}
use Rattle.csv_spans.proofs.Rules.{is-filled, forbidden-same, rule-one, rule-two, no-rule}
use Rattle.csv_spans.proofs.forbidden_in.Statement.{statement}
use Rattle.csv_spans.proofs.forbidden_in.Tie as tie

-- what is filled, as the code tests it
module _ (c : tie.After-struct_known-1) where
  abbrev dependent-read : tie.After-text_len-dependent
  dependent-read = c.before

  abbrev street-read : tie.After-text_len-street
  street-read = dependent-read.before.before

  abbrev name-read : tie.After-text_len-name
  name-read = street-read.before.before

  abbrev sub_read : tie.After-text_len-sub
  sub_read = name-read.before.before

  abbrev start : tie.Start
  start = sub_read.before.before.before

  abbrev text : Span → List ℕ
  text s = text_in2 start.args.csv.now start.args.csv.now s

  told : forbidden_of (not (eqb sub_read.text_len-sub.result 0)) (not (eqb name-read.text_len-name.result 0))
      (present start.args.e.number) (not (eqb street-read.text_len-street.result 0)) false
      (not (eqb dependent-read.text_len-dependent.result 0)) false
      ≡ forbidden_in (elements_in start.args.csv.now start.args.csv.now start.args.e)
  unfolding forbidden_in elements_in
  told =
      forbidden-same start.args.e.number (is-filled (text start.args.e.sub_building) sub_read.text_len-sub.ensures.0)
      (is-filled (text start.args.e.building) name-read.text_len-name.ensures.0) (is-filled (text start.args.e.thoroughfare) street-read.text_len-street.ensures.0)
      (is-filled (text start.args.e.dependent) dependent-read.text_len-dependent.ensures.0)

returns : tie.Need-returns-then-sub-name
returns c =
    let t = c in
    sym
    (rule-one (not (eqb (sub_read t.before).text_len-sub.result 0)) (not (eqb (name-read t.before).text_len-name.result 0))
    (present (start t.before).args.e.number) (not (eqb (street-read t.before).text_len-street.result 0))
    (not (eqb (dependent-read t.before).text_len-dependent.result 0)) c.if-sub-name.true)
    ∙ told t.before

-- the goals of the second rule are not called by its test, so that another test is refused for what it means
pub forbidden_in_spec : {M : Type 1} → statement M
forbidden_in_spec =
    tie.close
    (tie.spec (search rules) (search rules) (search rules) (search rules) returns
    (λ c.
    let t = c.before.before in
    sym
    (rule-two (not (eqb (sub_read t).text_len-sub.result 0)) (not (eqb (name-read t).text_len-name.result 0))
    (present (start t).args.e.number) (not (eqb (street-read t).text_len-street.result 0))
    (not (eqb (dependent-read t).text_len-dependent.result 0)) c.if-sub-name.false (search rules))
    ∙ told t)
    (λ c.
    let t = c.before.before in
    sym
    (no-rule (not (eqb (sub_read t).text_len-sub.result 0)) (not (eqb (name-read t).text_len-name.result 0))
    (present (start t).args.e.number) (not (eqb (street-read t).text_len-street.result 0))
    (not (eqb (dependent-read t).text_len-dependent.result 0)) c.if-sub-name.false (search rules))
    ∙ told t))
