-- `book_label::shown::shown_from` meets its contract. Assumes nothing.
use borrow.Author.Rules.{rules}
use mathlib.Core.Path.{sym, ap, ◌∙◌}
use mathlib.Core.Bool.{Bool}
use Rattle.book_label.specs.Shown.{shown_from}
use Rattle.book_label.proofs.shown.shown_from.Statement.{statement}
use Rattle.book_label.proofs.shown.shown_from.Tie as tie

returns : tie.Need-returns-then-listed
returns c =
    let item = c in
    let listed = item in
    let a = listed.args in
    item.item_from.ensures
    ∙ sym (ap (λ (t : Bool). shown_from t a.table.now a.book.now a.at a.out.now) listed.if-listed.true)

returns-2 : tie.Need-returns
returns-2 c =
    let label = c in
    let alone = label in
    let a = alone.args in
    label.label_from.ensures
    ∙ sym (ap (λ (t : Bool). shown_from t a.table.now a.book.now a.at a.out.now) alone.if-listed.false)

pub shown_from_spec : {M : Type 1} → statement M
shown_from_spec =
    tie.close
    (tie.spec (λ c κs. search rules) (search rules) returns (λ c κs. search rules) (search rules) returns-2)
