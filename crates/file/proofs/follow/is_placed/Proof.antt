-- `file::follow::is_placed` meets its contract. Assumes nothing.
use borrow.Author.Rules.{rules}
use mathlib.Core.Path.{refl}
use Rattle.file.proofs.Owners.{placed_by}
use Rattle.file.proofs.follow.is_placed.Statement.{statement}
use Rattle.file.proofs.follow.is_placed.Tie as tie

returns : tie.Need-returns
returns c =
    let third = c in
    let n = third in
    let second = n in
    let o = second in
    let b = o in
    let r = b in
    let s = r in
    rw (c.is_follower-followed.ensures, third.whole_record-next.ensures, n.needed_next-need.ensures, second.whole_record-owner.ensures, o.owner_of-place.ensures.0, b.byte_of-own.ensures, r.whole_record-rec.ensures)
    (placed_by s.args.file.now s.args.i s.requires.0 _ refl)

pub is_placed_spec : {M : Type 1} → statement M
is_placed_spec =
    tie.close
    (tie.spec (search rules) (search rules) (search rules) (search rules) (search rules) (search rules)
    (search rules) (search rules) returns)
