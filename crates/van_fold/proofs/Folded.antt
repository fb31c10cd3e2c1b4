-- What folding comes to, by the rows that are counted first.
-- Assumes nothing.
use Prim.Native.Nat.{ℕ, ◌≤◌, ◌<◌}
use mathlib.Core.Path.{◌≡◌, refl, sym}
use mathlib.Core.List.{List}
use lib.ListN.{length}
use Rattle.std.specs.Prelude.{Err}
use Rattle.refusal.specs.declared.Reason.TheVariants.{Room}
use Rattle.refusal.specs.Answer.{blame}
use Rattle.refusal.specs.Outcome.{said}
use Rattle.label.specs.Label.{ended}
use Rattle.van.specs.declared.Refusal.TheVariants.{Lower, TooManyLines}
use Rattle.van.specs.Fold.{rows}
use Rattle.van.specs.Walk.{text_rows}
use Rattle.van.specs.Said.{fold_outcome}
use Rattle.van.proofs.Saids.{counted-many, counted-room}

pub many : (text out : List ℕ) → rows < length (text_rows text) → fold_outcome text out ≡ said (Err TooManyLines) out
many text out h = sym (counted-many text out refl h)

pub short : (text out : List ℕ) → length (text_rows text) ≤ rows → length out < length (ended (text_rows text))
    → fold_outcome text out ≡ said (Err (Lower (blame 0 (Room (length (ended (text_rows text))))))) out
short text out few h = sym (counted-room text out refl few refl h)

pub ruleset refused = (many, short)
