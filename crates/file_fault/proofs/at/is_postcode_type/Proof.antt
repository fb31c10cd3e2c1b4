-- `file_fault::at::is_postcode_type` meets its contract. Assumes nothing.
use lib.Dec.{eqb}
use Rattle.field.proofs.Tests.{or-false}
use Rattle.file_fault.proofs.at.is_postcode_type.Statement.{statement}
use Rattle.file_fault.proofs.at.is_postcode_type.Tie as tie

returns : tie.Need-returns
returns c = rw (or-false (eqb c.args.b 76))

pub is_postcode_type_spec : {M : Type 1} → statement M
is_postcode_type_spec = tie.close (tie.spec returns)
