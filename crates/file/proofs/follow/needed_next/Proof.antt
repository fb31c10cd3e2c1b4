-- `file::follow::needed_next` meets its contract. Assumes nothing.
use borrow.Author.Rules.{rules}
use Rattle.file.specs.Formats.{needed}
use Rattle.file.proofs.follow.needed_next.Statement.{statement}
use Rattle.file.proofs.follow.needed_next.Tie as tie

returns : tie.Need-returns
unfolding needed
returns c =
    let z = c in
    let p = z in
    let u = p in
    let t = u in
    rw (c.needed_by.ensures, z.says_zero.ensures, p.part_of-key.ensures, u.byte_of-large.ensures, t.byte_of-view.ensures)

pub needed_next_spec : {M : Type 1} → statement M
needed_next_spec =
    tie.close (tie.spec (search rules) (search rules) (search rules) (search rules) (search rules) returns)
