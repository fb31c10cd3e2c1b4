-- `mainfile_rows::organisation_fault` meets its contract. Assumes nothing.
use borrow.Author.Rules.{rules}
use Rattle.mainfile_fault.specs.Faults.{main_organisation_fault}
use Rattle.mainfile_rows.proofs.organisation_fault.Statement.{statement}
use Rattle.mainfile_rows.proofs.organisation_fault.Tie as tie

returns : tie.Need-returns
unfolding main_organisation_fault
returns c =
    let key = c in
    let before-kind = key in
    let kind = before-kind in
    let before-name = kind in
    let last = before-name in
    let name = last in
    let department = name in
    rw (
      c.first_of-2.ensures,
      key.key_at.ensures,
      before-kind.first_of-kind.ensures,
      kind.postcode_type_at.ensures,
      before-name.first_of-name.ensures,
      last.first_of.ensures,
      name.name_at.ensures,
      department.text_at-department.ensures,
    )

pub organisation_fault_spec : {M : Type 1} → statement M
organisation_fault_spec =
    tie.close
    (tie.spec
    (search rules)
    (search rules)
    (search rules)
    (search rules)
    (search rules)
    (search rules)
    (search rules)
    (search rules)
    returns)
