-- `csv_write::fields::ending_at` meets its contract. Assumes nothing.
use borrow.Author.Rules.{rules}
use Rattle.csv_write.proofs.fields.ending_at.Statement.{statement}
use Rattle.csv_write.proofs.fields.ending_at.Tie as tie

returns : tie.Need-returns
returns c =
    let put = c in
    rw put.mark_of-mark.ensures at put.bytes_at.ensures

pub ending_at_spec : {M : Type 1} → statement M
ending_at_spec =
    tie.close (tie.spec (search rules) (search rules) (search rules) (search rules) returns)
