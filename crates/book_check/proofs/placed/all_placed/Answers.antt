use Rattle.std.proofs.Common.{Bool, sym, ap, ◌∙◌}
use mathlib.Core.Bool.{◌&&◌}
use Rattle.book.specs.Layout.{slot_at}
use Rattle.book.specs.Search.{all_from}
use Rattle.book.specs.Book.{is_held}
use Rattle.book_check.proofs.Marks.{marked-none, all_held}
use Rattle.book_check.proofs.placed.all_placed.Goals as goal

pub mark_all-requires : goal.mark_all-requires
mark_all-requires c = (c.requires.0, c.requires.1, marked-none (slot_at c.args.book.now))

pub returns : goal.returns
returns c =
    let slot = slot_at c.args.book.now in
    let yes = c.if-not-mark_all.false in
    let placed = sym c.mark_all.ensures.answer ∙ yes in
    c.all_marked.ensures
    ∙ (all_held slot (c.mark_all.ensures.marked yes) c.args.count c.requires.1
    ∙ sym (ap (λ (t : Bool). t && all_from (is_held slot) c.args.count 1) placed))
