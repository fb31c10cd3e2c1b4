-- `mainfile_codes::walk::end_from` meets its contract. Assumes nothing.
use borrow.Author.Rules.{rules}
use Rattle.mainfile_codes.proofs.walk.end_from.Statement.{statement}
use Rattle.mainfile_codes.proofs.walk.end_from.Tie as tie

returns : tie.Need-returns
returns c =
    let code = c in
    rw (c.end_in.ensures, code.part_of-code.ensures, code.whole_record-rec.ensures)

pub end_from_spec : {M : Type 1} → statement M
end_from_spec = tie.close (tie.spec (search rules) (search rules) (search rules) returns)
