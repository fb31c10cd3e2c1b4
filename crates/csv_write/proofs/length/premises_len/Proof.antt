-- `csv_write::length::premises_len` meets its contract. Assumes nothing.
use borrow.Author.Rules.{rules}
use native.Mathlib.Omega.{arith}
use Rattle.csv_write.proofs.Sizes.{premises-size}
use Rattle.csv_write.proofs.length.premises_len.Statement.{statement}
use Rattle.csv_write.proofs.length.premises_len.Tie as tie

returns : tie.Need-returns
returns c =
    let department = c in
    let box = department in
    let sub_building = box in
    let building = sub_building in
    let number = building in
    let g = number.args in
    let size = premises-size g.a.now g.b.now g.e in (
      omega (
        arith,
        size,
        number.number_len-number.ensures.0,
        building.text_len-building.ensures.0,
        sub_building.text_len-sub_building.ensures.0,
        box.text_len-po_box.ensures.0,
        department.text_len-department.ensures.0,
        c.text_len-organisation.ensures.0,
      ),
      omega (
        arith,
        number.number_len-number.ensures.1,
        building.text_len-building.ensures.1,
        sub_building.text_len-sub_building.ensures.1,
        box.text_len-po_box.ensures.1,
        department.text_len-department.ensures.1,
        c.text_len-organisation.ensures.1,
      ),
    )

pub premises_len_spec : {M : Type 1} → statement M
premises_len_spec =
    tie.close
    (tie.spec (search rules) (search rules) (search rules) (search rules) (search rules) (search rules) (search rules)
    (search rules) (search rules) (search rules) (search rules) (search rules) returns)
