-- The first `s` slots are written, the others are as they were.
-- Assumes nothing.
use Rattle.std.proofs.Common.{ℕ, List}
use Rattle.book_change.specs.Slotted.{Upto, Gives}
use Rattle.book_change.proofs.all.each_slot.Given as goal

abbrev pub invariant-loop-s : goal.invariant-loop-s
invariant-loop-s g l =
    (f : ℕ → List ℕ) → Gives (λ b s b'. goal.F-post g l.step b s tt b') f l.initial.book → Upto f l.s l.initial.book l.book
