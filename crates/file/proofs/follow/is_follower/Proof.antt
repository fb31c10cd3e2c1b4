-- `file::follow::is_follower` meets its contract. Assumes nothing.
use borrow.Author.Rules.{rules}
use Rattle.file.specs.Formats.{follows}
use Rattle.file.proofs.follow.is_follower.Statement.{statement}
use Rattle.file.proofs.follow.is_follower.Tie as tie

returns : tie.Need-returns
unfolding follows
returns c =
    let behind-part-of2 = c in
    let behind-part-of = behind-part-of2 in
    let behind-byte-of = behind-part-of in
    let s = behind-byte-of in
    rw (c.same_bytes-head.ensures, behind-part-of2.part_of-2.ensures, behind-part-of.part_of.ensures, behind-byte-of.byte_of-kind.ensures, s.requires)

pub is_follower_spec : {M : Type 1} → statement M
is_follower_spec = tie.close (tie.spec (search rules) (search rules) (search rules) (search rules) returns)
