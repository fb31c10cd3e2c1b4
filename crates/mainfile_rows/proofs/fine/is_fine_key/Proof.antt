-- `mainfile_rows::fine::is_fine_key` meets its contract. Assumes nothing.
use borrow.Author.Rules.{rules}
use mathlib.Core.Path.{sym, ◌∙◌}
use borrow.Author.Tests.{not-true}
use Rattle.field.proofs.Tests.{and_left, and_right}
use Rattle.file_fault.proofs.AtOnce.{key-none, digits-none}
use Rattle.mainfile_rows.proofs.fine.is_fine_key.Statement.{statement}
use Rattle.mainfile_rows.proofs.fine.is_fine_key.Tie as tie

returns : tie.Need-returns
returns c =
    let digits = c in
    λ e.
    key-none _ (sym c.eight_zero.ensures ∙ not-true _ (and_right digits.are_digits.result _ e))
    (digits-none _ (digits.are_digits.ensures (and_left digits.are_digits.result _ e)))

pub is_fine_key_spec : {M : Type 1} → statement M
is_fine_key_spec = tie.close (tie.spec (search rules) (search rules) returns)
