-- Every record from `from` to before `i` is fine, since each was asked.
-- Assumes nothing.
use Rattle.file.specs.Formats.{format_of}
use Rattle.file_check.specs.Scanning.{Onward}
use Rattle.file_check.proofs.standing.Given as goal

abbrev pub invariant-loop-i : goal.invariant-loop-i
invariant-loop-i l = Onward (format_of l.kind) l.file l.n l.from l.i
