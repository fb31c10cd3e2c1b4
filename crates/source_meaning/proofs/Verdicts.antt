-- What is resolved, by the verdict of the refusals.
-- Assumes nothing.
use mathlib.Core.Path.{◌≡◌, refl}
use mathlib.Core.Bool.{Bool, true, false, cond}
use Rattle.refusal.specs.declared.Reason.{Reason}
use Rattle.source.specs.Address.{Elements}
use Rattle.source.specs.Resolve.{Resolved, elements, refused}
use Rattle.std.specs.Prelude.{Ok, Err}
use Rattle.refusal.specs.Verdict.{Verdict, fine}

-- what is resolved, by the verdict of the refusals
abbrev pub resolved_by : Verdict → Elements → Resolved
resolved_by (Ok _) es = elements es
resolved_by (Err why) es = refused why

pub by-verdict : (t u : Bool) (eight nine : Reason) (es : Elements)
    → cond t (cond u (elements es) (refused nine)) (refused eight)
    ≡ resolved_by (cond t (cond u fine (Err nine)) (Err eight)) es
by-verdict true true eight nine es = refl
by-verdict true false eight nine es = refl
by-verdict false u eight nine es = refl
