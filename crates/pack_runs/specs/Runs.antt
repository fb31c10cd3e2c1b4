-- Runs of labels of a pack: "The same call works over a pack".
-- Assumes nothing.
use Rattle.std.specs.Prelude.{ℕ, List}
use Rattle.refusal.specs.Outcome.{Outcome, afterwards}
use Rattle.pack.specs.Opening.{opened}
use Rattle.pack.specs.Points.{pack_label}
use Rattle.run.specs.Series.{run_from}
use Rattle.refusal.specs.Answer.{refusal}
use Rattle.run.specs.Series.{Series}

-- an accepted pack first; "equal to asking for each in turn"
unfoldable pub pack_run : List ℕ → (first count : ℕ) → List ℕ → Outcome Series
pack_run pack first count out = afterwards refusal (opened pack) out (run_from (pack_label pack) first count out)
