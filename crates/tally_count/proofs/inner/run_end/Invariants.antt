-- The loop of `tally_count::inner::run_end`: from i on to `end` the codes are equal. Assumes nothing.
use Rattle.std.proofs.Common.{◌≡◌, ◌+◌, drop, get_or}
use Rattle.tally_count.specs.Counted.{repeats}
use Rattle.tally_count.proofs.inner.run_end.Given as goal

abbrev pub invariant-loop-end : goal.invariant-loop-end
invariant-loop-end l =
    l.i + 1 + repeats (get_or l.codes l.i 0) (drop (l.i + 1) l.codes)
    ≡ l.end + repeats (get_or l.codes l.i 0) (drop l.end l.codes)
