use Rattle.std.proofs.Common.{length, ◌-◌}
use Rattle.csv_read.proofs.Checked.{Checking}
use Rattle.csv_read.proofs.check_csv.Given as goal

-- the rows before have no fault, and the rest decides
abbrev pub invariant-loop-at : goal.invariant-loop-at
invariant-loop-at l = Checking l.csv l.rows l.fit l.at

abbrev pub decreases-loop-at : goal.decreases-loop-at
decreases-loop-at l = length l.csv - l.at
