-- `file_fault::at::byte_fault` meets its contract. Assumes nothing.
use borrow.Author.Rules.{rules}
use Rattle.file_fault.proofs.at.byte_fault.Statement.{statement}
use Rattle.file_fault.proofs.at.byte_fault.Tie as tie

returns-2 : tie.Need-returns-else-ok
returns-2 c = simp c.if-ok.false

pub byte_fault_spec : {M : Type 1} → statement M
byte_fault_spec = tie.close (tie.spec (λ c. search rules) (λ c. search rules) returns-2)
