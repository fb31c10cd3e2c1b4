-- `item_write::pieces::spaced_at` meets its contract: a space, and the digits behind it. Assumes nothing.
use borrow.Author.Rules.{rules}
use Rattle.label.proofs.Puts.{put_then}
use Rattle.item_write.proofs.pieces.spaced_at.Statement.{statement}
use Rattle.item_write.proofs.pieces.spaced_at.Tie as tie

returns : tie.Need-returns
returns c =
    let digits = c in
    let space = digits in
    put_then space.byte_at-i.ensures digits.decimal_at.ensures space.requires

pub spaced_at_spec : {M : Type 1} → statement M
spaced_at_spec = tie.close (tie.spec (search rules) (search rules) (search rules) returns)
