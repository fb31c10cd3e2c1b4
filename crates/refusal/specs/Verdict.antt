-- What checks say, one after another.
-- Assumes nothing.
use Rattle.std.specs.Prelude.{⊤, Result, Ok, Err}
use Rattle.refusal.specs.declared.Reason.{Reason}

-- no reason against it, or one
abbrev pub Verdict : Type 0
Verdict = Result ⊤ Reason

abbrev pub fine : Verdict
fine = Ok tt

-- the first that is bad decides
abbrev pub or_else : Verdict → Verdict → Verdict
or_else (Ok _) rest = rest
or_else (Err why) rest = Err why
