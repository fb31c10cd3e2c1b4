-- `mainfile_source::delivery::start_at` meets its contract. Assumes nothing.
use borrow.Author.Rules.{rules}
use borrow.Author.Tests.{lt-ltb, le-ltb}
use Rattle.mainfile_source.proofs.delivery.start_at.Statement.{statement}
use Rattle.mainfile_source.proofs.delivery.start_at.Tie as tie

returns : tie.Need-returns-then-i-addresses
returns c = simp (lt-ltb _ _ c.if-i-addresses.true)

returns-2 : tie.Need-returns-else-i-addresses
returns-2 c = simp (le-ltb _ _ c.if-i-addresses.false)

pub start_at_spec : {M : Type 1} → statement M
start_at_spec = tie.close (tie.spec (λ c. search rules) returns returns-2)
