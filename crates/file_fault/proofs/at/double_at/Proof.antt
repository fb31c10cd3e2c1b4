-- `file_fault::at::double_at` meets its contract. Assumes nothing.
use borrow.Author.Rules.{rules}
use Rattle.file_fault.specs.Table.{double_fault}
use Rattle.file_fault.proofs.at.double_at.Statement.{statement}
use Rattle.file_fault.proofs.at.double_at.Tie as tie

returns : tie.Need-returns-then-all_are
unfolding double_fault
returns c =
    let d = c in
    let e = d in
    let p = e in
    simp
    (rw (d.all_are-2.ensures, e.all_are.ensures, p.part_of-double.ensures, p.part_of-needed.ensures) at c.if-all_are.true)

returns-2 : tie.Need-returns-else-all_are
unfolding double_fault
returns-2 c =
    let t = c in
    let d = t in
    let e = d in
    let p = e in
    rw c.text_at.ensures
    (simp
    (rw (d.all_are-2.ensures, e.all_are.ensures, p.part_of-double.ensures, p.part_of-needed.ensures) at t.if-all_are.false))

pub double_at_spec : {M : Type 1} → statement M
double_at_spec =
    tie.close
    (tie.spec
    (λ c κs. search rules)
    (λ c κs. search rules)
    (λ c κs. search rules)
    (λ c κs. search rules)
    (λ c. search rules)
    (λ c κs. search rules)
    returns
    returns-2)
