-- `changes_table::is_table_letter` meets its contract. Assumes nothing.
use lib.Dec.{eqb}
use Rattle.field.proofs.Tests.{or-false}
use Rattle.changes_table.proofs.is_table_letter.Statement.{statement}
use Rattle.changes_table.proofs.is_table_letter.Tie as tie

returns : tie.Need-returns
returns c = rw (or-false (eqb c.args.b 32))

pub is_table_letter_spec : {M : Type 1} → statement M
is_table_letter_spec = tie.close (tie.spec returns)
