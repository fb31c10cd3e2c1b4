-- `file_fault::at::placed` meets its contract. Assumes nothing.
use borrow.Author.Rules.{rules}
use mathlib.Core.Path.{sym}
use Rattle.file_fault.proofs.Laws.{place-some}
use Rattle.file_fault.proofs.at.placed.Statement.{statement}
use Rattle.file_fault.proofs.at.placed.Tie as tie

returns-2 : tie.Need-returns-else-fault-eq0
returns-2 c = sym (place-some _ _ c.if-fault-eq0.false)

pub placed_spec : {M : Type 1} → statement M
placed_spec = tie.close (tie.spec (λ c. search rules) (λ c. search rules) returns-2)
