-- "A fresh label buffer is 499 zero bytes"; "its untouched tail is proved still zero".
-- Assumes nothing.
use Rattle.std.specs.Prelude.{ℕ, ◌-◌, ◌≡◌, List, drop}
use Rattle.label_print.proofs.Unique.{zeros}
use Rattle.std.specs.Prelude.{Ok, Err}
use Rattle.refusal.specs.Answer.{Answer}

-- what a fresh buffer holds behind the label that was printed into it; all of it where the label is refused
abbrev pub TailZero : Answer → List ℕ → Type 0
TailZero (Ok n) bytes = drop n bytes ≡ zeros (499 - n)
TailZero (Err r) bytes = bytes ≡ zeros 499
