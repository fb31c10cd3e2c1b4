-- The entries that were not gone through yet are left to write.
-- Assumes nothing.
use Rattle.std.proofs.Common.{◌≡◌, length, drop}
use Rattle.label.proofs.Going.{Going}
use Rattle.changes_codes.specs.Codes.{pair_bytes}
use Rattle.changes_codes.proofs.entries.write_entries.Given as goal

abbrev pub invariant-loop-code : goal.invariant-loop-code
invariant-loop-code l =
    (length l.out ≡ length l.fn.out)
    × Going (pair_bytes l.codes l.counts) (pair_bytes (drop (length l.yielded) l.codes) (drop (length l.yielded) l.counts)) l.fn.out 0 l.at l.out
