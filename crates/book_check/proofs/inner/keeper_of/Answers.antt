use Rattle.std.proofs.Common.{rules, tests}
use Rattle.book.specs.Layout.{slots, slot_at}
use Rattle.book.specs.Book.{keeps, keeper}
use Rattle.book_check.proofs.Loops.{first_found}
use Rattle.book_check.proofs.inner.keeper_of.Goals as goal

pub returns : goal.returns
unfolding keeper
returns c =
    first_found (keeps (slot_at c.args.book.now) c.args.id.now) slots _ c.first_slot.ensures.within (λ t h. let k = c.first_slot.ensures.before t h in search (rules, tests))
    (λ h. let k = c.first_slot.ensures.found h in search (rules, tests))
