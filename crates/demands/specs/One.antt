-- Demand 1: "Every public call answers for every input .. a refused call writes nothing into lent memory."
-- Assumes nothing.
use Rattle.std.specs.Prelude.{ℕ, ◌≡◌, List}
use Rattle.call.specs.Call.{Call, Saying, one, run, called, comes_to}
use Rattle.std.specs.Prelude.{Ok, Err}
use Rattle.refusal.specs.Answer.{Answer}
use Rattle.run.specs.Series.{Series}
use Rattle.run.specs.declared.Run.TheVariants.{Stopped, Done}

-- what the contract of an exported call allows: a number, what the buffer holds at exit, and the bytes of a run or a listing
abbrev pub Allows : Call → (out : List ℕ) → (before : ℕ) → (number : ℕ) → (exit : List ℕ) → (bytes : ℕ) → Type 0
Allows call out before number exit bytes = called number exit bytes ≡ comes_to call out before

-- refused as a whole; a run or a listing that stopped is none
abbrev pub IsRefused : Answer → Type 0
IsRefused (Ok n) = ⊥
IsRefused (Err r) = Unit {0}

abbrev pub IsUnasked : Series → Type 0
IsUnasked (Err r) = Unit {0}
IsUnasked (Ok (Stopped labels bytes why)) = ⊥
IsUnasked (Ok (Done labels bytes)) = ⊥

abbrev pub RefusedWhole : Saying → Type 0
RefusedWhole (one answer) = IsRefused answer
RefusedWhole (run series) = IsUnasked series
