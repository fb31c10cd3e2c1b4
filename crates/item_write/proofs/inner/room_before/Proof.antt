-- `item_write::inner::room_before` meets its contract. Assumes nothing.
use borrow.Author.Tests.{le-leb, lt-leb}
use Rattle.item_write.specs.Headed.{before}
use Rattle.item_write.proofs.inner.room_before.Statement.{statement}
use Rattle.item_write.proofs.inner.room_before.Tie as tie

returns : tie.Need-returns-then-heading-room
unfolding before
returns c = simp (le-leb _ _ c.if-heading-room.true)

returns-2 : tie.Need-returns
unfolding before
returns-2 c = simp (lt-leb _ _ c.if-heading-room.false)

pub room_before_spec : {M : Type 1} → statement M
room_before_spec = tie.close (tie.spec returns returns-2)
