-- Laws of verdicts, one after another.
-- Assumes nothing.
use Prim.Native.Nat.{ℕ}
use mathlib.Core.Path.{◌≡◌, refl}
use native.Mathlib.Omega.{arith}
use Rattle.refusal.specs.Verdict.{or_else}
use Rattle.refusal.specs.declared.Reason.{Reason}
use Rattle.std.specs.Prelude.{Ok, Err}
use Rattle.refusal.specs.Verdict.{Verdict, fine}

pub bad-fine : (why : Reason) → Err why ≡ fine → ⊥
bad-fine why e = let z : ◌≡◌ {A = ℕ} 0 1 = cc in omega arith

pub both-fine : (v w : Verdict) → or_else v w ≡ fine → (v ≡ fine) × (w ≡ fine)
both-fine (Ok _) w e = (refl, e)
both-fine (Err why) w e = absurd (bad-fine why e)
