-- `csv_label::shown::shown_at` meets its contract. Assumes nothing.
use borrow.Author.Rules.{rules}
use mathlib.Core.Path.{sym, ap, ◌∙◌}
use mathlib.Core.Bool.{Bool}
use Rattle.csv_label.specs.Shown.{resolved_at, shown_of}
use Rattle.csv_label.proofs.shown.shown_at.Statement.{statement}
use Rattle.csv_label.proofs.shown.shown_at.Tie as tie

returns : tie.Need-returns-then-listed
returns c =
    let item = c in
    let listed = item in
    let a = listed.args in
    item.item_at.ensures
    ∙ sym (ap (λ (t : Bool). shown_of t a.row (resolved_at a.csv.now a.place) a.out.now) listed.if-listed.true)

returns-2 : tie.Need-returns
returns-2 c =
    let label = c in
    let alone = label in
    let a = alone.args in
    label.label_at.ensures
    ∙ sym (ap (λ (t : Bool). shown_of t a.row (resolved_at a.csv.now a.place) a.out.now) alone.if-listed.false)

pub shown_at_spec : {M : Type 1} → statement M
shown_at_spec =
    tie.close
    (tie.spec (λ c κs. search rules) (search rules) returns (λ c κs. search rules) (search rules) returns-2)
