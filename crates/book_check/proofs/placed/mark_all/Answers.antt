use Rattle.std.proofs.Common.{sym, arith}
use Rattle.book.specs.Layout.{slots, slot_at}
use Rattle.book.specs.Book.{well_placed}
use Rattle.book.proofs.Search.{each_all}
use Rattle.book_check.proofs.Loops.{all_fails}
use Rattle.book_check.proofs.placed.mark_all.Goals as goal

pub returns-then-not-mark_place-clause-answer : goal.returns-then-not-mark_place-clause-answer
returns-then-not-mark_place-clause-answer c =
    sym (all_fails (well_placed (slot_at c.args.book.now) c.args.count) slots 0 c.loop-s.s (omega arith) (omega arith) (sym (c.if-not-mark_place.ensures).answer))

pub returns-clause-answer : goal.returns-clause-answer
returns-clause-answer c =
    sym (each_all (well_placed (slot_at c.args.book.now) c.args.count) slots 0 (λ t low high. c.loop-s.invariant.placed t (omega arith)))
