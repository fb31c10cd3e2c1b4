use mathlib.Core.Path.{◌∙◌}
use Rattle.refusal.proofs.Outcomes.{after-value, after-refused}
use Rattle.refusal.proofs.Passed.{passed-on}
use Rattle.book_source.proofs.check_source.Goals as goal

pub returns : goal.returns
returns c =
    rw c.check_table.ensures (after-value _ _ _ c.check_book.ensures _ c.in_ok-check_book.was)

pub returns-in_err-check_book : goal.returns-in_err-check_book
returns-in_err-check_book c =
    passed-on _ _ c.from_residual.ensures.1
    ∙ (after-refused _ _ _ c.check_book.ensures _ _ c.in_err-check_book.was)
