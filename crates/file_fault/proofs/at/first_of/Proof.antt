-- `file_fault::at::first_of` meets its contract. Assumes nothing.
use borrow.Author.Rules.{rules}
use mathlib.Core.Path.{sym}
use Rattle.file_fault.proofs.Laws.{first_some}
use Rattle.file_fault.proofs.at.first_of.Statement.{statement}
use Rattle.file_fault.proofs.at.first_of.Tie as tie

returns-2 : tie.Need-returns-else-fault-eq0
returns-2 c = sym (first_some _ _ c.if-fault-eq0.false)

pub first_of_spec : {M : Type 1} → statement M
first_of_spec = tie.close (tie.spec (λ c. search rules) returns-2)
