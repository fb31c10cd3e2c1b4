-- `file_formats::inner::fault_in` meets its contract. Assumes nothing.
use borrow.Author.Rules.{rules}
use Rattle.file_formats.proofs.inner.fault_in.Statement.{statement}
use Rattle.file_formats.proofs.inner.fault_in.Tie as tie

returns : tie.Need-returns-in-Table
returns c = rw c.in-Table.is c.table_fault.ensures

returns-2 : tie.Need-returns-in-Points
returns-2 c = rw c.in-Points.is c.point_fault.ensures

returns-3 : tie.Need-returns-in-Main
returns-3 c = rw c.in-Main.is c.fault_in.ensures

pub fault_in_spec : {M : Type 1} → statement M
fault_in_spec = tie.close (tie.spec (search rules) (search rules) (search rules) (search rules) (search rules) (search rules) returns returns-2 returns-3)
