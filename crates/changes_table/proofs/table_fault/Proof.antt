-- `changes_table::table_fault` meets its contract. Assumes nothing.
use borrow.Author.Rules.{rules}
use Rattle.file_fault.specs.Table.{table_fault}
use Rattle.changes_table.proofs.table_fault.Statement.{statement}
use Rattle.changes_table.proofs.table_fault.Tie as tie

returns : tie.Need-returns
unfolding table_fault
returns c =
    let behind-table-rest-fault = c in
    let behind-table-head-fault = behind-table-rest-fault in
    rw (c.first_of.ensures, behind-table-rest-fault.table_rest_fault.ensures, behind-table-head-fault.table_head_fault.ensures)

pub table_fault_spec : {M : Type 1} → statement M
table_fault_spec =
    tie.close
    (tie.spec (λ c κs. search rules) (λ c κs. search rules) (λ c κs. search rules) returns)
