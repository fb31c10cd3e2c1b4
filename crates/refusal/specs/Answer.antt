-- What a call answers: a value, or a refusal, which names the file to blame.
-- Assumes nothing.
use Rattle.std.specs.Prelude.{ℕ, Result, Err}
use Rattle.refusal.specs.declared.Reason.{Reason}
use Rattle.refusal.specs.declared.Refusal.{Refusal}

abbrev pub Answer : Type 0
Answer = Result ℕ Refusal

-- "the file to blame", 0 being none, and the reason
abbrev pub blame : ℕ → Reason → Refusal
blame file why = record { file = file; reason = why }

-- the answer of a call that refuses, whatever it would have said else
abbrev pub refusal : {A : Type 0} → ℕ → Reason → Result A Refusal
refusal file why = Err (blame file why)
