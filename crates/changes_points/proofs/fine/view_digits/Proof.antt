-- `changes_points::fine::view_digits` meets its contract. Assumes nothing.
use borrow.Author.Rules.{rules}
use Rattle.file_fault.proofs.AtOnce.{three, digits-none}
use mathlib.Core.Path.{sym, ◌∙◌}
use Rattle.changes_points.proofs.fine.view_digits.Statement.{statement}
use Rattle.changes_points.proofs.fine.view_digits.Tie as tie

returns : tie.Need-returns
returns c =
    let reason = c in
    let keys = reason in
    let part = keys in
    let head = part in
    λ e.
    let each = three head.head_digits-head.result keys.are_digits-keys.result c.are_digits-reason.result e in
    let front = head.head_digits-head.ensures each.0 in (
      front.0,
      front.1,
      digits-none _ (rw part.part_of.ensures at (sym keys.are_digits-keys.ensures ∙ each.1)),
      digits-none _ (rw reason.part_of-2.ensures at (sym c.are_digits-reason.ensures ∙ each.2)),
    )

pub view_digits_spec : {M : Type 1} → statement M
view_digits_spec =
    tie.close
    (tie.spec
    (search rules)
    (search rules)
    (search rules)
    (search rules)
    (search rules)
    returns)
