-- The cases of `numeric_like`, in the order in which the code tests.
-- Assumes nothing.
use Prim.Native.Nat.{ℕ, ◌≤◌, ◌<◌}
use mathlib.Core.Path.{◌≡◌, refl}
use mathlib.Core.Bool.{Bool, true, false, ◌&&◌, ◌||◌}
use mathlib.Core.List.{List, [], ◌∷◌}
use native.Mathlib.Omega.{arith}
use borrow.Author.Tests.{le-leb, ne_eqb}
use lib.Dec.{eqb}
use lib.ListN.{length, get_or}
use Rattle.field.specs.Digits.{digit}
use Rattle.field.specs.Text.{letter, from_end, numeric_like}
use Rattle.field.proofs.Tests.{or-false}

-- fewer than two bytes: one
pub like-short : (s : List ℕ) → length s < 2 → numeric_like s ≡ eqb (length s) 1
unfolding numeric_like
like-short [] h = refl
like-short (x ∷ []) h = either (digit x && digit x)
  where
    either : (t : Bool) → t || false || true ≡ true
    either true = refl
    either false = refl
like-short (x ∷ y ∷ s) h = absurd (omega arith)

module _ (s : List ℕ) (long : 2 ≤ length s) where
  pub like-first : digit (get_or s 0 0) ≡ false → numeric_like s ≡ false
  unfolding numeric_like
  like-first f = simp (le-leb 2 (length s) long, f, ne_eqb (length s) 1 (λ e. omega arith))

  pub like-long : digit (get_or s 0 0) ≡ true
      → numeric_like s ≡ digit (from_end s 1) || (digit (from_end s 2) && letter (from_end s 1))
  unfolding numeric_like
  like-long f =
      simp (le-leb 2 (length s) long, f, ne_eqb (length s) 1 (λ e. omega arith))
      (or-false (digit (from_end s 1) || (digit (from_end s 2) && letter (from_end s 1))))
