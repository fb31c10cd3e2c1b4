-- `mainfile_mark::marking::mark_rows` meets its contract. Assumes nothing.
use borrow.Author.Rules.{rules}
use native.Mathlib.Omega.{arith}
use Rattle.mainfile.specs.Rows.{kind_stock}
use Rattle.mainfile_mark.proofs.Marks.{rows-marked}
use Rattle.mainfile_mark.proofs.marking.mark_rows.Statement.{statement}
use Rattle.mainfile_mark.proofs.marking.mark_rows.Tie as tie

returns : tie.Need-returns
returns c =
    let seventh = c in
    let sixth = seventh in
    let fifth = sixth in
    let fourth = fifth in
    let third = fourth in
    let second = third in
    let first = second in
    let a = first.args in
    λ s there room.
    rows-marked s a.rows there a.localities.now a.thoroughfares.now a.descriptors.now a.buildings.now
    a.sub_buildings.now first.mark_row.new.bits second.mark_row-2.new.bits third.mark_row-3.new.bits
    fourth.mark_row-4.new.bits fifth.mark_row-5.new.bits sixth.mark_row-6.new.bits seventh.mark_row-7.new.bits
    (first.mark_row.ensures (kind_stock s 1).last room.of_localities)
    (second.mark_row-2.ensures (kind_stock s 2).last room.of_thoroughfares)
    (third.mark_row-3.ensures (kind_stock s 3).last room.of_descriptors)
    (fourth.mark_row-4.ensures (kind_stock s 2).last (omega (arith, second.mark_row-2.auto.bits, room.of_thoroughfares)))
    (fifth.mark_row-5.ensures (kind_stock s 3).last (omega (arith, third.mark_row-3.auto.bits, room.of_descriptors)))
    (sixth.mark_row-6.ensures (kind_stock s 4).last room.of_buildings)
    (seventh.mark_row-7.ensures (kind_stock s 5).last room.of_sub_buildings)

pub mark_rows_spec : {M : Type 1} → statement M
mark_rows_spec = tie.close
    (tie.spec (search rules) (search rules) (search rules) (search rules) (search rules) (search rules) (search rules)
    (search rules) (search rules) (search rules) (search rules) (search rules) (search rules) (search rules) (search rules)
    (search rules) (search rules) (search rules) (search rules) returns)
