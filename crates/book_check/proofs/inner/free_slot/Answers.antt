use Rattle.std.proofs.Common.{rules, not, tests}
use Rattle.book.specs.Layout.{slots, slot_at}
use Rattle.book.specs.Book.{used}
use Rattle.book.specs.Event.{free_in}
use Rattle.book_check.proofs.Loops.{first_found}
use Rattle.book_check.proofs.inner.free_slot.Goals as goal

pub returns : goal.returns
unfolding free_in
returns c =
    first_found (λ s. not (used (slot_at c.args.book.now) s)) slots _ c.first_slot.ensures.within (λ t h. let k = c.first_slot.ensures.before t h in search (rules, tests))
    (λ h. let k = c.first_slot.ensures.found h in search (rules, tests))
