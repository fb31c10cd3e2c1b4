-- The field ends where it ends from `i` on.
-- Assumes nothing.
use Rattle.std.proofs.Common.{◌≡◌, ◌+◌, drop}
use Rattle.csv_read.specs.Cut.{field_length, field_end}
use Rattle.csv_read.proofs.fields.field_end.Given as goal

abbrev pub invariant-loop-i : goal.invariant-loop-i
invariant-loop-i l = field_end l.csv l.at ≡ l.i + field_length (drop l.i l.csv)
