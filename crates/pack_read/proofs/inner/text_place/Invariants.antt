-- Behind so many texts, so that text n is one of those that are left; a text takes at most 256 bytes.
-- Assumes nothing.
use Rattle.std.proofs.Common.{◌≡◌, ◌+◌, ◌-◌, ◌*◌, ◌≤◌}
use Rattle.pack.specs.Opening.{text_place}
use Rattle.pack_read.proofs.inner.text_place.Given as goal

abbrev pub invariant-loop : goal.invariant-loop
invariant-loop l = (l.at ≤ l.from + 256 * l.counter) × (text_place l.rows l.n l.from ≡ text_place l.rows (l.n - l.counter) l.at)
