-- `changes_table::locality_fault` meets its contract. Assumes nothing.
use borrow.Author.Rules.{rules}
use Rattle.changes_table.proofs.locality_fault.Statement.{statement}
use Rattle.changes_table.proofs.locality_fault.Tie as tie

returns : tie.Need-returns
returns c =
    let behind-filled-at = c in
    let behind-first-of2 = behind-filled-at in
    let behind-text-at = behind-first-of2 in
    let behind-first-of = behind-text-at in
    let behind-double-at = behind-first-of in
    rw (c.first_of.ensures, behind-filled-at.filled_at.ensures, behind-first-of2.first_of-dependent.ensures, behind-text-at.text_at.ensures, behind-first-of.first_of-double.ensures, behind-double-at.double_at.ensures)

pub locality_fault_spec : {M : Type 1} → statement M
locality_fault_spec =
    tie.close
    (tie.spec
    (λ c κs. search rules)
    (λ c κs. search rules)
    (λ c κs. search rules)
    (λ c κs. search rules)
    (λ c κs. search rules)
    (λ c κs. search rules)
    returns)
