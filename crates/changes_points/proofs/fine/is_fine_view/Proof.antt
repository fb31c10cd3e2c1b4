-- `changes_points::fine::is_fine_view` meets its contract. Assumes nothing.
use borrow.Author.Rules.{rules}
use Rattle.changes_points.proofs.Laws.{view-fine}
use Rattle.field.proofs.Tests.{and_left, and_right}
use lib.Dec.{eqb}
use borrow.Author.Tests.{eqb-true}
use mathlib.Core.Path.{sym, ◌∙◌}
use mathlib.Core.Bool.{false≢true}
use Rattle.changes_points.proofs.fine.is_fine_view.Statement.{statement}
use Rattle.changes_points.proofs.fine.is_fine_view.Tie as tie

returns : tie.Need-returns-then-not-is_fine_box
returns c = λ e. absurd (false≢true e)

returns-2 : tie.Need-returns
returns-2 c =
    let first = c in
    let left = first in
    let box = left in
    λ e.
    let mark = eqb first.yes_at-concatenation.result 0 in
    let other = eqb c.yes_at-indicator.result 0 in
    view-fine box.args.rec.now
    (sym first.yes_at-concatenation.ensures ∙ eqb-true _ 0 (and_left mark other e))
    (box.is_fine_box.ensures (left.if-not-is_fine_box.false))
    (sym c.yes_at-indicator.ensures ∙ eqb-true _ 0 (and_right mark other e))

pub is_fine_view_spec : {M : Type 1} → statement M
is_fine_view_spec =
    tie.close (tie.spec (search rules) returns (search rules) (search rules) returns-2)
