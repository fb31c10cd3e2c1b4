-- The counts so far and those of the points that are left make the whole.
-- Assumes nothing.
use Rattle.std.proofs.Common.{◌≡◌, ℕ, ◌+◌, ◌-◌, ◌*◌, ◌<◌, length, get_or}
use Rattle.pack.specs.Sectors.{in_sector}
use Rattle.pack.specs.Opening.{digits_from}
use Rattle.pack_counts.proofs.inner.count_digits.Given as goal

abbrev pub invariant-loop-i : goal.invariant-loop-i
invariant-loop-i l =
    (length l.of_digits ≡ 10)
    × ((d : ℕ) → d < 10
    → get_or l.of_digits d 0 + in_sector d (digits_from l.points l.width (l.n - l.i) (l.start + l.width * l.i))
    ≡ in_sector d (digits_from l.points l.width l.n l.start))
