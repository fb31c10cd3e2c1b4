-- `changes_points::is_point_letter` meets its contract. Assumes nothing.
use lib.Dec.{eqb}
use Rattle.field.proofs.Tests.{or-false}
use Rattle.changes_points.proofs.is_point_letter.Statement.{statement}
use Rattle.changes_points.proofs.is_point_letter.Tie as tie

returns : tie.Need-returns
returns c = rw (or-false (eqb c.args.b 73))

pub is_point_letter_spec : {M : Type 1} → statement M
is_point_letter_spec = tie.close (tie.spec returns)
