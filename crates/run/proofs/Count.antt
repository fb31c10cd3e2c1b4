-- How many labels a run writes: no more than there are numbers from its first on; and what stops it is a label's own refusal.
-- Assumes nothing.
use Prim.Native.Nat.{ℕ, zero, suc, ◌-◌, ◌≤◌}
use mathlib.Core.List.{List}
use native.Mathlib.Omega.{arith}
use lib.ListN.{drop}
use Rattle.refusal.specs.declared.Reason.{Reason}
use Rattle.run.specs.Series.{Asking, behind, go_on, run_from}
use Rattle.std.specs.Prelude.{Ok, Err}
use Rattle.refusal.specs.Answer.{Answer}
use Rattle.run.specs.Series.{Series}
use Rattle.run.specs.declared.Run.TheVariants.{Stopped, Done}

-- a label of number k is there, k being one of so many, or its refusal is of a kind
abbrev pub LabelSays : (Reason → Type 0) → (limit k : ℕ) → Answer → Type 0
LabelSays Kind limit k (Ok b) = (1 ≤ k) × (k ≤ limit)
LabelSays Kind limit k (Err r) = Kind r.reason

-- at most so many labels, and a stop is of that kind
abbrev pub RunSays : (Reason → Type 0) → (limit : ℕ) → Series → Type 0
RunSays Kind limit (Err r) = ⊥
RunSays Kind limit (Ok (Stopped labels bytes why)) = (labels ≤ limit) × Kind why
RunSays Kind limit (Ok (Done labels bytes)) = labels ≤ limit

module _ (Kind : Reason → Type 0) where
  behind-says : (m limit b : ℕ) (s : Series) → suc m ≤ limit → RunSays Kind m s → RunSays Kind limit (behind 1 b s)
  behind-says m limit b (Err refused-by) h r = r
  behind-says m limit b (Ok (Stopped l c why)) h r = (omega (arith, r.0), r.1)
  behind-says m limit b (Ok (Done l c)) h r = omega arith

  module _ (a : Asking) (limit : ℕ) (says : (k : ℕ) (out : List ℕ) → LabelSays Kind limit k (a k out).answer) where
    pub run-says : (n k : ℕ) (out : List ℕ) → RunSays Kind (limit - (k - 1)) (run_from a k n out).answer
    run-says zero k out = omega arith
    run-says (suc n) k out = by_answer (a k out).answer (says k out) (λ left. run-says n (suc k) left)
      where
        by_answer : (r : Answer) → LabelSays Kind limit k r
            → ((left : List ℕ) → RunSays Kind (limit - (suc k - 1)) (run_from a (suc k) n left).answer)
            → RunSays Kind (limit - (k - 1)) (go_on r (a k out).memory (λ left. run_from a (suc k) n left)).answer
        by_answer (Ok b) h more =
            let left = drop b (a k out).memory in
            behind-says (limit - (suc k - 1)) (limit - (k - 1)) b (run_from a (suc k) n left).answer (omega (arith, h.0, h.1))
            (more left)
        by_answer (Err r) h more = (omega arith, h)
