-- `csv_write::carried::is_plain` meets its contract. Assumes nothing.
use borrow.Author.Rules.{rules}
use Rattle.csv_write.proofs.carried.is_plain.Statement.{statement}
use Rattle.csv_write.proofs.carried.is_plain.Tie as tie

returns : tie.Need-returns
returns c = rw c.text_of-t.ensures at c.all_plain.ensures

pub is_plain_spec : {M : Type 1} → statement M
is_plain_spec = tie.close (tie.spec (search rules) (search rules) returns)
