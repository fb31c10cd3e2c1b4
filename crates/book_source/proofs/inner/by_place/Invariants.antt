-- The slots from `s` on are taken.
-- Assumes nothing.
use Rattle.std.proofs.Common.{◌≡◌, length}
use Rattle.book.specs.Layout.{slots, slot_at}
use Rattle.book_source.proofs.Places.{TakenFrom}
use Rattle.book_source.proofs.inner.by_place.Given as goal

abbrev pub invariant-loop-s : goal.invariant-loop-s
invariant-loop-s l = record { long : length l.starts ≡ slots; taken : TakenFrom (slot_at l.book) l.s l.starts }
