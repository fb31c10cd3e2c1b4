use Rattle.std.proofs.Common.{rules, tests}
use Rattle.book.specs.Layout.{slots, slot_at}
use Rattle.book.specs.Book.{has_place, holder}
use Rattle.book_check.proofs.Loops.{first_found}
use Rattle.book_check.proofs.inner.holder_of.Goals as goal

pub returns : goal.returns
unfolding holder
returns c =
    first_found (has_place (slot_at c.args.book.now) c.args.place) slots _ c.first_slot.ensures.within (λ t h. let k = c.first_slot.ensures.before t h in search (rules, tests))
    (λ h. let k = c.first_slot.ensures.found h in search (rules, tests))
