-- Two ways of asking that answer alike run alike.
-- Assumes nothing.
use Prim.Native.Nat.{ℕ, zero, suc}
use mathlib.Core.Path.{◌≡◌, refl}
use mathlib.Core.List.{List}
use lib.ListN.{drop}
use Rattle.refusal.specs.Outcome.{Outcome}
use Rattle.run.specs.Series.{Asking, go_on, run_from}
use Rattle.std.specs.Prelude.{Ok, Err}
use Rattle.refusal.specs.Answer.{Answer}
use Rattle.run.specs.Series.{Series}

abbrev pub Alike : Asking → Asking → Type 0
Alike a b = (k : ℕ) (out : List ℕ) → a k out ≡ b k out

go-on-same : (r : Answer) (written : List ℕ) (next other : List ℕ → Outcome Series)
    → ((left : List ℕ) → next left ≡ other left)
    → go_on r written next ≡ go_on r written other
go-on-same (Ok b) written next other e = rw (e (drop b written))
go-on-same (Err r) written next other e = refl

pub same-run : (a b : Asking) → Alike a b → (n k : ℕ) (out : List ℕ) → run_from a k n out ≡ run_from b k n out
same-run a b alike zero k out = refl
same-run a b alike (suc n) k out =
    rw (alike k out) (go-on-same (b k out).answer (b k out).memory _ _ (λ left. same-run a b alike n (suc k) left))
