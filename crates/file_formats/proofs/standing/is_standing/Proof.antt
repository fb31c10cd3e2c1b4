-- `file_formats::standing::is_standing` meets its contract. Assumes nothing.
use borrow.Author.Rules.{rules}
use Rattle.file_formats.proofs.standing.is_standing.Statement.{statement}
use Rattle.file_formats.proofs.standing.is_standing.Tie as tie

is-standing-row-requires : tie.Need-is_standing_row-requires
is-standing-row-requires c κs = rw c.in-Table.is at c.requires

is-standing-point-requires : tie.Need-is_standing_point-requires
is-standing-point-requires c κs = rw c.in-Points.is at c.requires

returns : tie.Need-returns-in-Table
returns c = rw c.in-Table.is c.is_standing_row.ensures

returns-2 : tie.Need-returns-in-Points
returns-2 c = rw c.in-Points.is c.is_standing_point.ensures

is-standing-requires : tie.Need-is_standing-requires
is-standing-requires c κs = rw c.in-Main.is at c.requires

returns-3 : tie.Need-returns-in-Main
returns-3 c = rw c.in-Main.is c.is_standing.ensures

pub is_standing_spec : {M : Type 1} → statement M
is_standing_spec = tie.close (tie.spec (search rules) is-standing-row-requires (search rules) is-standing-point-requires (search rules) is-standing-requires returns returns-2 returns-3)
