-- Laws of runs over a pack.
-- Assumes nothing.
use Prim.Native.Nat.{ℕ}
use mathlib.Core.Path.{◌≡◌, ◌∙◌}
use mathlib.Core.List.{List}
use Rattle.refusal.proofs.Outcomes.{afterwards-value}
use Rattle.pack.specs.Opening.{opened}
use Rattle.pack.specs.Points.{point_label, pack_label}
use Rattle.run.specs.Series.{run_from}
use Rattle.run.proofs.Same.{same-run}
use Rattle.pack_runs.specs.Runs.{pack_run}
use Rattle.std.specs.Prelude.{Ok}
use Rattle.refusal.specs.Answer.{refusal}

-- where the pack is opened, a run asks its points
pub points-run : (pack : List ℕ) (first count : ℕ) (out : List ℕ) {n : ℕ} → opened pack ≡ Ok n
    → pack_run pack first count out ≡ run_from (point_label pack) first count out
unfolding pack_run pack_label
points-run pack first count out e =
    afterwards-value refusal out _ e ∙ same-run _ _ (λ k o. afterwards-value refusal o _ e) count first out
