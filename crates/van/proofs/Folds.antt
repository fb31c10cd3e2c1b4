-- One line folded: one line where it is short, else its first line and what is left, folded the same way.
-- Assumes nothing.
use Prim.Native.Nat.{ℕ, zero, suc, ◌≤◌, ◌<◌}
use mathlib.Core.Path.{◌≡◌, refl, ap}
use mathlib.Core.Bool.{Bool, true, false}
use mathlib.Core.List.{List, [], ◌∷◌}
use native.Mathlib.Omega.{arith}
use borrow.Author.Tests.{le-leb, lt-leb, leb-true, leb-false}
use lib.Dec.{leb}
use lib.ListN.{length}
use Rattle.van.specs.Fold.{columns, Break, Line, line, first_of, left_of, fold_by, fold_line}
use Rattle.van.proofs.Breaks.{left-length}

module _ (e : Break) where
  pub fold-short : (bytes : List ℕ) → length bytes ≤ columns → fold_line (line bytes e) ≡ line bytes e ∷ []
  unfolding fold_by
  fold-short [] h = refl
  fold-short (b ∷ bs) h = rw (le-leb (length (b ∷ bs)) columns h)

  -- how many breaks are allowed does not matter, where they are enough
  fold-enough : (n m : ℕ) (bytes : List ℕ) → length bytes ≤ n → length bytes ≤ m
      → fold_by n (line bytes e) ≡ fold_by m (line bytes e)
  unfolding fold_by
  fold-enough zero zero bytes h k = refl
  fold-enough zero (suc m) bytes h k = rw (le-leb (length bytes) columns (omega arith))
  fold-enough (suc n) zero bytes h k = rw (le-leb (length bytes) columns (omega arith))
  fold-enough (suc n) (suc m) bytes h k = by-test (leb (length bytes) columns) refl (fold-enough n m (left_of bytes))
    where
      by-test : (t : Bool) → leb (length bytes) columns ≡ t
          → (length (left_of bytes) ≤ n → length (left_of bytes) ≤ m
          → fold_by n (line (left_of bytes) e) ≡ fold_by m (line (left_of bytes) e))
          → fold_by (suc n) (line bytes e) ≡ fold_by (suc m) (line bytes e)
      by-test true f left = rw f
      by-test false f left =
          let shorter : length (left_of bytes) < length bytes = left-length bytes (leb-false (length bytes) columns f) in
          rw f (ap (λ (ls : List Line). first_of bytes ∷ ls) (left (omega arith) (omega arith)))

  pub fold-long : (bytes : List ℕ) → columns < length bytes
      → fold_line (line bytes e) ≡ first_of bytes ∷ fold_line (line (left_of bytes) e)
  unfolding fold_by
  fold-long [] h = absurd (omega arith)
  fold-long (b ∷ bs) h =
      let shorter : length (left_of (b ∷ bs)) < length (b ∷ bs) = left-length (b ∷ bs) h in
      rw (lt-leb (length (b ∷ bs)) columns h)
      (ap (λ (ls : List Line). first_of (b ∷ bs) ∷ ls)
      (fold-enough (length bs) (length (left_of (b ∷ bs))) (left_of (b ∷ bs)) (omega arith) (omega arith)))

-- what holds of a short line, and of a long one where it holds of what is left, holds of every line
module _ (P : List ℕ → Type 0) (short : (bytes : List ℕ) → length bytes ≤ columns → P bytes)
    (long : (bytes : List ℕ) → columns < length bytes → P (left_of bytes) → P bytes) where
  by-test : (n : ℕ) (bytes : List ℕ) (t : Bool) → leb (length bytes) columns ≡ t → length bytes ≤ suc n
      → (length (left_of bytes) ≤ n → P (left_of bytes)) → P bytes
  by-test n bytes true f h left = short bytes (leb-true (length bytes) columns f)
  by-test n bytes false f h left =
      let more : columns < length bytes = leb-false (length bytes) columns f in
      long bytes more (left (omega (arith, left-length bytes more)))

  up_to : (n : ℕ) (bytes : List ℕ) → length bytes ≤ n → P bytes
  up_to zero bytes h = short bytes (omega arith)
  up_to (suc n) bytes h = by-test n bytes (leb (length bytes) columns) refl h (up_to n (left_of bytes))

  pub by_lines : (bytes : List ℕ) → P bytes
  by_lines bytes = up_to (length bytes) bytes (omega arith)
