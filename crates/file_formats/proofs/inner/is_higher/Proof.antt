-- `file_formats::inner::is_higher` meets its contract. Assumes nothing.
use borrow.Author.Rules.{rules}
use Rattle.file_formats.proofs.inner.is_higher.Statement.{statement}
use Rattle.file_formats.proofs.inner.is_higher.Tie as tie

returns : tie.Need-returns-in-Table
returns c = rw c.in-Table.is c.is_front_above.ensures

returns-2 : tie.Need-returns-in-Points
returns-2 c = rw c.in-Points.is c.is_front_above-in-Points.ensures

is-higher-requires : tie.Need-is_higher-requires
is-higher-requires c κs = rw c.in-Main.is at c.requires

returns-3 : tie.Need-returns-in-Main
returns-3 c = rw c.in-Main.is c.is_higher.ensures

pub is_higher_spec : {M : Type 1} → statement M
is_higher_spec = tie.close (tie.spec (search rules) (search rules) (search rules) (search rules) (search rules) is-higher-requires returns returns-2 returns-3)
