-- `report_folder::read_full` is safe and ends: each turn puts a byte behind what is there.
use Rattle.std.proofs.Common.{length, ◌-◌, ◌≤◌}
use Rattle.report_folder.proofs.read_full.Given as goal

abbrev pub invariant-loop-done : goal.invariant-loop-done
invariant-loop-done g l = l.done ≤ length l.into

abbrev pub decreases-loop-done : goal.decreases-loop-done
decreases-loop-done g l = length l.initial.into - l.done
