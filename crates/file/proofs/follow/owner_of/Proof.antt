-- `file::follow::owner_of` meets its contract. Assumes nothing.
use borrow.Author.Rules.{rules}
use native.Mathlib.Omega.{arith}
use Rattle.file.proofs.follow.owner_of.Statement.{statement}
use Rattle.file.proofs.follow.owner_of.Tie as tie

returns : tie.Need-returns-then-own
returns c = (simp c.if-own.true, omega arith)

returns-2 : tie.Need-returns-else-own
returns-2 c = (simp c.if-own.false, omega arith)

pub owner_of_spec : {M : Type 1} → statement M
owner_of_spec = tie.close (tie.spec (search rules) returns returns-2)
