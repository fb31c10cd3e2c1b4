-- `file_formats::inner::is_header` meets its contract. Assumes nothing.
use borrow.Author.Rules.{rules}
use Rattle.file_formats.proofs.inner.is_header.Statement.{statement}
use Rattle.file_formats.proofs.inner.is_header.Tie as tie

returns : tie.Need-returns-in-Table
returns c = rw c.in-Table.is c.header_ok.ensures

returns-2 : tie.Need-returns-in-Points
returns-2 c = rw c.in-Points.is c.header_ok-in-Points.ensures

returns-3 : tie.Need-returns-in-Main
returns-3 c = rw c.in-Main.is c.is_header.ensures

pub is_header_spec : {M : Type 1} → statement M
is_header_spec = tie.close (tie.spec (search rules) (search rules) (search rules) (search rules) (search rules) (search rules) returns returns-2 returns-3)
