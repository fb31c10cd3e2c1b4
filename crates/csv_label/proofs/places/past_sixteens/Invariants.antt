-- What stands behind the row from there on stands behind the row.
-- Assumes nothing.
use Rattle.std.proofs.Common.{◌≡◌, ◌+◌, ◌*◌, drop}
use Rattle.csv_paf.specs.File.{behind_row}
use Rattle.csv_label.proofs.places.past_sixteens.Given as goal

abbrev pub invariant-loop-n : goal.invariant-loop-n
invariant-loop-n l = behind_row (drop l.at l.fn.csv) ≡ behind_row (drop (l.at + l.n * 16) l.fn.csv)
