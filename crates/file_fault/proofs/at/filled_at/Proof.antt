-- `file_fault::at::filled_at` meets its contract. Assumes nothing.
use borrow.Author.Rules.{rules}
use Rattle.file_fault.proofs.Laws.{in-record}
use Rattle.field.proofs.Texts.{filled-bound}
use Rattle.file_fault.proofs.at.filled_at.Statement.{statement}
use Rattle.file_fault.proofs.at.filled_at.Tie as tie

placed-requires : tie.Need-placed-requires
placed-requires c κs =
    let p = c.before in
    let s = p.before.before in
    rw (c.filled_fault.ensures, p.part_of.ensures)
    (in-record s.args.rec.now s.args.start s.args.end s.requires.0 s.requires.1 _ (filled-bound _))

returns : tie.Need-returns
returns c =
    let f = c in
    rw (c.placed.ensures, f.filled_fault.ensures, f.part_of.ensures)

pub filled_at_spec : {M : Type 1} → statement M
filled_at_spec =
    tie.close (tie.spec (λ c κs. search rules) (λ c κs. search rules) placed-requires returns)
