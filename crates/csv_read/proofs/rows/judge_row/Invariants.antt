-- The fields before are well formed, and the rest decides.
-- Assumes nothing.
use Rattle.csv_read.specs.Judged.{Reading}
use Rattle.csv_read.proofs.rows.judge_row.Given as goal

abbrev pub invariant-loop-n : goal.invariant-loop-n
invariant-loop-n l = Reading l.csv l.fn.at l.n l.start l.alone l.fits
