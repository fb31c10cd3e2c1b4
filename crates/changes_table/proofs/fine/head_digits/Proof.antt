-- `changes_table::fine::head_digits` meets its contract. Assumes nothing.
use borrow.Author.Rules.{rules}
use mathlib.Core.Path.{refl, sym, ◌∙◌}
use Rattle.field_test.proofs.Laws.{digits-where}
use Rattle.changes_table.proofs.fine.head_digits.Statement.{statement}
use Rattle.changes_table.proofs.fine.head_digits.Tie as tie

returns : tie.Need-returns
returns c =
    λ e.
    let fits = sym c.digits_where.ensures ∙ e in
    let rec = c.args.rec.now in
    (digits-where rec _ 1 9 fits refl, digits-where rec _ 9 23 fits refl)

pub head_digits_spec : {M : Type 1} → statement M
head_digits_spec = tie.close (tie.spec (search rules) returns)
