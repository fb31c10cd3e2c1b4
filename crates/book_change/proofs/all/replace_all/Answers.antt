use Rattle.std.proofs.Common.{rules}
use Rattle.book.specs.Event.{slot_replaced}
use Rattle.book_change.specs.Slotted.{present}
use Rattle.book_change.proofs.all.replace_all.Goals as goal

pub returns : goal.returns
returns c = c.each_slot.ensures (slot_replaced c.args.book.now c.args.place (present c.args.view.now c.args.follower.now)) (λ b b' s at same called. search rules)
