-- `file_fault::at::is_yes_or_space` meets its contract. Assumes nothing.
use lib.Dec.{eqb}
use Rattle.field.proofs.Tests.{or-false}
use Rattle.file_fault.proofs.at.is_yes_or_space.Statement.{statement}
use Rattle.file_fault.proofs.at.is_yes_or_space.Tie as tie

returns : tie.Need-returns
returns c = rw (or-false (eqb c.args.b 32))

pub is_yes_or_space_spec : {M : Type 1} → statement M
is_yes_or_space_spec = tie.close (tie.spec returns)
