-- `mainfile_rows::text_fault` meets its contract. Assumes nothing.
use borrow.Author.Rules.{rules}
use native.Mathlib.Nat.{zero-add}
use mathlib.Core.Path.{refl}
use Rattle.mainfile_fault.specs.Faults.{main_text_fault}
use Rattle.mainfile_rows.proofs.text_fault.Statement.{statement}
use Rattle.mainfile_rows.proofs.text_fault.Tie as tie

returns : tie.Need-returns
unfolding main_text_fault
returns c =
    let key = c in
    let text = key in
    let filled = text in
    rw (c.first_of.ensures, key.key_at.ensures, text.first_of-text.ensures, filled.filled_at.ensures, zero-add) refl

pub text_fault_spec : {M : Type 1} → statement M
text_fault_spec =
    tie.close
    (tie.spec
    (search rules)
    (search rules)
    (search rules)
    (search rules)
    (search rules)
    returns)
