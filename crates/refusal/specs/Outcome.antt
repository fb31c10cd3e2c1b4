-- What a call comes to: what it says, and what the lent buffer holds then.
-- Assumes nothing.
use Rattle.std.specs.Prelude.{ℕ, List, Ok, Err}
use Rattle.refusal.specs.declared.Reason.{Reason}
use Rattle.refusal.specs.Answer.{Answer}

pub record Outcome (A : Type 0) : Type 0 where
  pub answer : A
  pub memory : List ℕ

abbrev pub said : {A : Type 0} → A → List ℕ → Outcome A
said answer memory = record { answer = answer; memory = memory }

-- a refusal comes first; only a value lets the next question be asked
abbrev pub after : Answer → Answer → Answer
after (Ok n) next = next
after (Err r) next = Err r

-- the same of a call that writes, and says by `whole` that nothing was asked: "A refusal leaves lent buffers unwritten"
abbrev pub afterwards : {A : Type 0} → (ℕ → Reason → A) → Answer → List ℕ → Outcome A → Outcome A
afterwards whole (Ok n) out next = next
afterwards whole (Err r) out next = said (whole r.file r.reason) out
