-- The loop of `field_read::text_by_bytes`: what stands behind `i` is padding. Assumes nothing.
use Rattle.std.proofs.Common.{◌≡◌}
use Rattle.field.specs.Text.{text_in}
use Rattle.field_read.proofs.text_by_bytes.Given as goal

abbrev pub invariant-loop-i : goal.invariant-loop-i
invariant-loop-i l = text_in l.rec l.start l.i ≡ text_in l.rec l.start l.end
