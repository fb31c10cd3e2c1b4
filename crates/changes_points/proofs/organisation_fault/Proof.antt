-- `changes_points::organisation_fault` meets its contract. Assumes nothing.
use borrow.Author.Rules.{rules}
use Rattle.changes_points.proofs.organisation_fault.Statement.{statement}
use Rattle.changes_points.proofs.organisation_fault.Tie as tie

returns : tie.Need-returns
returns c =
    let behind-first-of = c in
    let behind-text-at = behind-first-of in
    rw (c.first_of-2.ensures, behind-first-of.first_of.ensures, behind-text-at.text_at-department.ensures)

pub organisation_fault_spec : {M : Type 1} → statement M
organisation_fault_spec =
    tie.close (tie.spec (λ c κs. search rules) (λ c κs. search rules) (λ c κs. search rules) returns)
