-- A value is no refusal, and two values that are the same have the same number.
-- Assumes nothing.
use Prim.Native.Nat.{ℕ}
use mathlib.Core.Path.{◌≡◌, ap}
use native.Mathlib.Omega.{arith}
use Rattle.refusal.specs.declared.Reason.{Reason}
use Rattle.std.specs.Prelude.{Ok, Err}
use Rattle.refusal.specs.declared.Refusal.{Refusal}
use Rattle.refusal.specs.Answer.{Answer, blame, refusal}

pub refused-value : (file n : ℕ) (why : Reason) → refusal file why ≡ Ok n → ⊥
refused-value file n why e = let z : ◌≡◌ {A = ℕ} 0 1 = cc in omega arith

pub same-value : (m n : ℕ) → ◌≡◌ {A = Answer} (Ok m) (Ok n) → m ≡ n
same-value m n e = cc

-- the refusal of an answer, or another where it is a value
abbrev refused-with : Refusal → Answer → Refusal
refused-with other (Ok n) = other
refused-with other (Err r) = r

pub same-reason : {f g : ℕ} {v w : Reason} → ◌≡◌ {A = Answer} (refusal f v) (refusal g w) → v ≡ w
same-reason {f} {g} {v} {w} e = ap (λ (a : Answer). (refused-with (blame f v) a).reason) e
