-- `file_formats::standing::is_standing_point` meets its contract. Assumes nothing.
use borrow.Author.Rules.{rules}
use Rattle.file_formats.proofs.standing.is_standing_point.Statement.{statement}
use Rattle.file_formats.proofs.standing.is_standing_point.Tie as tie

is-standing-view-requires : tie.Need-is_standing_view-requires
is-standing-view-requires c κs =
    let byte = c.before in
    let rec = byte.before in
    (rec.requires, rw (byte.byte_of.ensures, rec.whole_record.ensures) at c.if-byte_of-eq49.true)

is-standing-follower-requires : tie.Need-is_standing_follower-requires
is-standing-follower-requires c κs =
    let byte = c.before in
    let rec = byte.before in
    (rec.requires, rw (byte.byte_of.ensures, rec.whole_record.ensures) at c.if-byte_of-eq49.false)

returns : tie.Need-returns-then-byte_of-eq49
returns c = c.is_standing_view.ensures

returns-2 : tie.Need-returns-else-byte_of-eq49
returns-2 c = c.is_standing_follower.ensures

pub is_standing_point_spec : {M : Type 1} → statement M
is_standing_point_spec =
    tie.close
    (tie.spec
    (search rules)
    (search rules)
    is-standing-view-requires
    is-standing-follower-requires
    returns
    returns-2)
