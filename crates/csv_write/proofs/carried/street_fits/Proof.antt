-- `csv_write::carried::street_fits` meets its contract. Assumes nothing.
use borrow.Author.Rules.{rules}
use Rattle.csv_write.proofs.carried.street_fits.Statement.{statement}
use Rattle.csv_write.proofs.carried.street_fits.Tie as tie

returns : tie.Need-returns
returns c = rw c.street_len.ensures.0

pub street_fits_spec : {M : Type 1} → statement M
street_fits_spec = tie.close (tie.spec (search rules) returns)
