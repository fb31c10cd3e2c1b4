use Rattle.std.proofs.Common.{rules}
use Rattle.book.specs.Event.{slot_removed}
use Rattle.book_change.proofs.all.remove_all.Goals as goal

pub returns : goal.returns
returns c = c.each_slot.ensures (slot_removed c.args.book.now c.args.place) (λ b b' s at same called. search rules)
