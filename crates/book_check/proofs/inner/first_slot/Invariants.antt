-- No slot before `s` passes.
-- Assumes nothing.
use Rattle.std.proofs.Common.{ℕ, false, ◌<◌}
use Rattle.book_check.proofs.inner.first_slot.Given as goal

abbrev pub invariant-loop-s : goal.invariant-loop-s
invariant-loop-s g l = (t : ℕ) → t < l.s → goal.F-post g l.test t false
