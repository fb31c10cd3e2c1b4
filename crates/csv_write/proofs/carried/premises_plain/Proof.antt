-- `csv_write::carried::premises_plain` meets its contract. Assumes nothing.
use borrow.Author.Rules.{rules}
use Rattle.label.specs.Spans.{elements_in}
use Rattle.csv_write.specs.Carried.{premises_plain}
use Rattle.csv_write.proofs.carried.premises_plain.Statement.{statement}
use Rattle.csv_write.proofs.carried.premises_plain.Tie as tie

returns : tie.Need-returns
unfolding premises_plain elements_in
returns c =
    let department = c in
    let box = department in
    let sub_building = box in
    let building = sub_building in
    rw (
      building.is_plain-building.ensures,
      sub_building.is_plain-sub_building.ensures,
      box.is_plain-po_box.ensures,
      department.is_plain-department.ensures,
      c.is_plain-organisation.ensures,
    )

pub premises_plain_spec : {M : Type 1} → statement M
premises_plain_spec =
    tie.close
    (tie.spec (search rules) (search rules) (search rules) (search rules) (search rules) returns)
