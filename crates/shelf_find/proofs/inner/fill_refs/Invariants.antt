-- The places before `i` have their records' numbers.
-- Assumes nothing.
use Rattle.std.proofs.Common.{◌≡◌, ℕ, ◌≤◌, ◌<◌, get_or}
use Rattle.shelf.specs.Shelf.{ref_at}
use Rattle.shelf_find.proofs.inner.fill_refs.Given as goal

abbrev pub invariant-loop-i : goal.invariant-loop-i
invariant-loop-i l = (j : ℕ) → 1 ≤ j → j < l.i → get_or l.refs j 0 ≡ ref_at l.s l.file j
