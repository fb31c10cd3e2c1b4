-- `changes_points::point_fault` meets its contract. Assumes nothing.
use borrow.Author.Rules.{rules}
use Rattle.file_fault.specs.Point.{point_fault}
use Rattle.changes_points.proofs.point_fault.Statement.{statement}
use Rattle.changes_points.proofs.point_fault.Tie as tie

returns : tie.Need-returns
unfolding point_fault
returns c =
    let behind-point-rest-fault = c in
    let behind-point-head-fault = behind-point-rest-fault in
    rw (c.first_of.ensures, behind-point-rest-fault.point_rest_fault.ensures, behind-point-head-fault.point_head_fault.ensures)

pub point_fault_spec : {M : Type 1} → statement M
point_fault_spec =
    tie.close
    (tie.spec (λ c κs. search rules) (λ c κs. search rules) (λ c κs. search rules) returns)
