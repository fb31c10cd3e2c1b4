-- The row is that of a number among those left.
-- Assumes nothing.
use Rattle.std.proofs.Common.{◌≡◌, ◌≤◌, ◌+◌, ◌-◌, length, drop}
use Rattle.csv_paf.specs.File.{rows_of}
use Rattle.csv_paf.specs.Ask.{kth_of}
use Rattle.csv_label.proofs.places.row_place.Given as goal

abbrev pub invariant-loop : goal.invariant-loop
invariant-loop l =
    (l.at ≤ length l.csv) × (kth_of (rows_of (drop l.at l.csv)) (l.row - l.counter + 1) ≡ kth_of (rows_of l.csv) l.row)
