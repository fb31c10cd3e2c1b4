-- `item_write::pieces::fault_at` meets its contract. Assumes nothing.
use borrow.Author.Rules.{rules}
use Rattle.label.proofs.Puts.{put-none, put_as, room_as}
use Rattle.item.proofs.Lines.{byte-none, byte-some}
use Rattle.item_write.proofs.pieces.fault_at.Statement.{statement}
use Rattle.item_write.proofs.pieces.fault_at.Tie as tie

returns : tie.Need-returns-then-number-ne4
returns c =
    let a = c.args in
    put_as (byte-none a.number a.second c.if-number-ne4.true) (put-none a.out.now a.at)

spaced-at-requires : tie.Need-spaced_at-requires
spaced-at-requires c κs =
    let four = c in
    let start = four in
    let a = start.args in
    room_as a.out.now a.at (byte-some a.number a.second four.if-number-ne4.false) start.requires

returns-2 : tie.Need-returns
returns-2 c =
    let written = c in
    let four = written in
    let a = four.args in
    put_as (byte-some a.number a.second four.if-number-ne4.false) written.spaced_at.ensures

pub fault_at_spec : {M : Type 1} → statement M
fault_at_spec = tie.close (tie.spec returns spaced-at-requires (search rules) returns-2)
