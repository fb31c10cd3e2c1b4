-- The slots before `s` are placed well, and their places are marked.
-- Assumes nothing.
use Rattle.std.proofs.Common.{ℕ, ◌≡◌, true, ◌<◌}
use Rattle.book.specs.Layout.{slot_at}
use Rattle.book.specs.Book.{well_placed}
use Rattle.book_check.specs.Marked.{Marked}
use Rattle.book_check.proofs.placed.mark_all.Given as goal

abbrev pub invariant-loop-s : goal.invariant-loop-s
invariant-loop-s l =
    record {
      placed : (t : ℕ) → t < l.s → well_placed (slot_at l.book) l.count t ≡ true;
      marked : Marked (slot_at l.book) l.s l.marks;
    }
