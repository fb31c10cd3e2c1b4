-- `mainfile_rows::fine::is_fine_short_key` meets its contract. Assumes nothing.
use borrow.Author.Rules.{rules}
use Prim.Native.Nat.{◌-◌}
use mathlib.Core.Path.{◌≡◌, sym, ap, ◌∙◌}
use native.Mathlib.Omega.{arith}
use borrow.Author.Tests.{not-true}
use Rattle.field.proofs.Tests.{and_left, and_right}
use Rattle.field_test.proofs.Laws.{nines, digits-where}
use Rattle.file_fault.proofs.AtOnce.{key-none}
use Rattle.mainfile_rows.proofs.fine.is_fine_short_key.Statement.{statement}
use Rattle.mainfile_rows.proofs.fine.is_fine_short_key.Tie as tie

returns : tie.Need-returns
returns c =
    let zero = c in
    let part = zero in
    let at-start = part in
    let a = at-start.args in
    let all : a.digits - 0 ≡ a.digits = omega arith in
    λ e.
    key-none _ (rw part.part_of.ensures at (sym zero.all_are-zero.ensures ∙ not-true _ (and_right c.digits_where.result _ e)))
    (digits-where a.rec.now a.pattern.now 0 a.digits
    (sym c.digits_where.ensures ∙ and_left c.digits_where.result _ e) (at-start.requires ∙ ap nines (sym all)))

pub is_fine_short_key_spec : {M : Type 1} → statement M
is_fine_short_key_spec =
    tie.close (tie.spec (search rules) (search rules) (search rules) returns)
