use Rattle.std.proofs.Common.{rules}
use Rattle.book.specs.Event.{slot_tidied}
use Rattle.book_change.proofs.all.tidy_all.Goals as goal

pub returns : goal.returns
returns c = c.each_slot.ensures (slot_tidied c.args.old.now) (λ b b' s at same called. search rules)
