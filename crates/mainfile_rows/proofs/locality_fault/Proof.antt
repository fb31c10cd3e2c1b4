-- `mainfile_rows::locality_fault` meets its contract. Assumes nothing.
use borrow.Author.Rules.{rules}
use Rattle.mainfile_fault.specs.Faults.{main_locality_fault}
use Rattle.mainfile_rows.proofs.locality_fault.Statement.{statement}
use Rattle.mainfile_rows.proofs.locality_fault.Tie as tie

returns : tie.Need-returns
unfolding main_locality_fault
returns c =
    let key = c in
    let before-town = key in
    let town = before-town in
    let before-dependent = town in
    let last = before-dependent in
    let dependent = last in
    let double = dependent in
    rw (
      c.first_of-2.ensures,
      key.key_at.ensures,
      before-town.first_of-town.ensures,
      town.filled_at.ensures,
      before-dependent.first_of-dependent.ensures,
      last.first_of.ensures,
      dependent.text_at.ensures,
      double.double_at-double.ensures,
    )

pub locality_fault_spec : {M : Type 1} → statement M
locality_fault_spec =
    tie.close
    (tie.spec
    (search rules)
    (search rules)
    (search rules)
    (search rules)
    (search rules)
    (search rules)
    (search rules)
    (search rules)
    returns)
