use native.Mathlib.Omega.{arith}
use Rattle.std.proofs.Common.{◌≡◌}
use mathlib.Core.Path.{sym, ap, ◌∙◌}
use Rattle.source.specs.Address.{Elements}
use Rattle.label.specs.Label.{label_of, room_outcome}
use Rattle.csv_paf.specs.Ask.{forbidden_in}
use Rattle.csv_label.proofs.ShownLaws.{label-none, label-refused, label-printed}
use Rattle.csv_label.proofs.shown.label_at.Goals as goal

pub returns-then-csv-place : goal.returns-then-csv-place
returns-then-csv-place c = rw c.into.ensures (sym (label-none c.args.csv.now c.args.place c.args.out.now (omega arith)))

pub row_spans-spans-requires : goal.row_spans-spans-requires
row_spans-spans-requires c = c.requires.good (omega arith)

pub returns-then-rule-ne0 : goal.returns-then-rule-ne0
returns-then-rule-ne0 c =
    let rule = c.forbidden_in-rule.ensures ∙ ap forbidden_in c.row_spans-spans.ensures in
    rw c.into-then-rule-ne0.ensures
    (sym (label-refused c.args.csv.now c.args.place c.args.out.now (omega arith) rule (λ z. omega arith)))

pub returns : goal.returns
returns c =
    let rule = c.forbidden_in-rule.ensures ∙ ap forbidden_in c.row_spans-spans.ensures in
    let none : c.forbidden_in-rule.result ≡ 0 = omega arith in
    c.print_label.ensures
    ∙ (ap (λ (x : Elements). room_outcome (label_of x) c.args.out.now) c.row_spans-spans.ensures
    ∙ sym (label-printed c.args.csv.now c.args.place c.args.out.now (omega arith) (sym rule ∙ none)))
