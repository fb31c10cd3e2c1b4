use Rattle.std.proofs.Common.{◌-◌}
use Rattle.file.specs.Formats.{format_of}
use Rattle.file_check.specs.Scanning.{Onward}
use Rattle.file_check.proofs.scan_records.Given as goal

abbrev pub invariant-loop-i : goal.invariant-loop-i
invariant-loop-i l = Onward (format_of l.kind) l.file l.n 1 l.i

abbrev pub decreases-loop-i : goal.decreases-loop-i
decreases-loop-i l = l.n - 1 - l.i
