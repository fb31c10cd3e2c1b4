use Rattle.std.proofs.Common.{rules, ◌∙◌, refl, tests}
use Rattle.std.proofs.lemmas.Iterator.{YieldsList-from_range}
use Rattle.std.proofs.lemmas.Iterator.Search.{all_from_yields_List}
use Rattle.book.specs.Layout.{slots, slot_at}
use Rattle.book.specs.Book.{slot_fine}
use Rattle.book_check.proofs.Loops.{all_range}
use Rattle.book_check.proofs.fine.all_fine.Goals as goal

pub returns : goal.returns
returns c =
    let fine = slot_fine (slot_at c.args.book.now) in
    all_from_yields_List fine _ _ _ c.all.ensures.ran (YieldsList-from_range 0 slots slots refl refl) (λ x b q k. search (rules, tests))
    ∙ all_range fine slots 0
