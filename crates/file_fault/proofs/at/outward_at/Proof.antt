-- `file_fault::at::outward_at` meets its contract. Assumes nothing.
use borrow.Author.Rules.{rules}
use Rattle.file_fault.proofs.Laws.{in-record}
use Rattle.field_outward.proofs.Codes.{outward-bound}
use Rattle.file_fault.proofs.at.outward_at.Statement.{statement}
use Rattle.file_fault.proofs.at.outward_at.Tie as tie

placed-requires : tie.Need-placed-requires
placed-requires c κs =
    let p = c.before in
    let s = p.before.before in
    rw (c.outward_fault.ensures, p.part_of.ensures)
    (in-record s.args.rec.now s.args.start s.args.end s.requires.0 s.requires.1 _ (outward-bound _))

returns : tie.Need-returns
returns c =
    let f = c in
    rw (c.placed.ensures, f.outward_fault.ensures, f.part_of.ensures)

pub outward_at_spec : {M : Type 1} → statement M
outward_at_spec =
    tie.close (tie.spec (λ c κs. search rules) (λ c κs. search rules) placed-requires returns)
