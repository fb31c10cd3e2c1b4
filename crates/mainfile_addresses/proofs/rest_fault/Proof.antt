-- `mainfile_addresses::rest_fault` meets its contract. Assumes nothing.
use borrow.Author.Rules.{rules}
use Rattle.mainfile_addresses.proofs.rest_fault.Statement.{statement}
use Rattle.mainfile_addresses.proofs.rest_fault.Tie as tie

returns : tie.Need-returns
returns c =
    let user = c in
    let before-user = user in
    let concatenation = before-user in
    let before-concatenation = concatenation in
    let suffix = before-concatenation in
    let before-suffix = suffix in
    let indicator = before-suffix in
    let before-indicator = indicator in
    let box = before-indicator in
    rw (
      c.first_of.ensures,
      user.postcode_type_at.ensures,
      before-user.first_of-concatenation.ensures,
      concatenation.yes_at-2.ensures,
      before-concatenation.first_of-suffix.ensures,
      suffix.suffix_at.ensures,
      before-suffix.first_of-indicator.ensures,
      indicator.yes_at.ensures,
      before-indicator.first_of-po_box.ensures,
      box.text_at.ensures,
    )

pub rest_fault_spec : {M : Type 1} → statement M
rest_fault_spec =
    tie.close
    (tie.spec
    (search rules)
    (search rules)
    (search rules)
    (search rules)
    (search rules)
    (search rules)
    (search rules)
    (search rules)
    (search rules)
    (search rules)
    returns)
