-- Laws of the rows of a file: what stands behind a row is shorter, and any number that is not below the bytes is enough to
-- count rows with.
-- Assumes nothing.
use Prim.Native.Nat.{ℕ, zero, suc, ◌≤◌, ◌<◌}
use mathlib.Core.Path.{◌≡◌, refl, sym, ap}
use mathlib.Core.Bool.{Bool, true, false, cond, true≢false}
use mathlib.Core.List.{List, [], ◌∷◌}
use native.Mathlib.Omega.{arith}
use lib.ListN.{length, drop, length-drop}
use Rattle.csv_paf.specs.File.{row_ends, is_ended, behind_row, rows_from, rows_of}

pub behind-bound : (bytes : List ℕ) → length (behind_row bytes) ≤ length bytes
behind-bound [] = omega arith
behind-bound (x ∷ xs) = by-test (row_ends x xs) (behind-bound xs)
  where
    by-test : (t : Bool) → length (behind_row xs) ≤ length xs → length (cond t (drop 1 xs) (behind_row xs)) ≤ suc (length xs)
    by-test true h = omega (arith, length-drop 1 xs)
    by-test false h = omega arith

-- a row takes a byte at least
behind-next : (x : ℕ) (xs : List ℕ) → length (behind_row (x ∷ xs)) ≤ length xs
behind-next x xs = by-test (row_ends x xs) (behind-bound xs)
  where
    by-test : (t : Bool) → length (behind_row xs) ≤ length xs → length (cond t (drop 1 xs) (behind_row xs)) ≤ length xs
    by-test true h = omega (arith, length-drop 1 xs)
    by-test false h = h

pub behind-less : (bytes : List ℕ) → 0 < length bytes → length (behind_row bytes) < length bytes
behind-less [] h = absurd (omega arith)
behind-less (x ∷ xs) h = omega (arith, behind-next x xs)

-- "there are no more rows than bytes": any number that is not below them gives the same rows
pub rows-fuel : (m n : ℕ) (bytes : List ℕ) → length bytes ≤ m → length bytes ≤ n → rows_from m bytes ≡ rows_from n bytes
rows-fuel zero zero [] h k = refl
rows-fuel zero (suc n) [] h k = refl
rows-fuel (suc m) zero [] h k = refl
rows-fuel (suc m) (suc n) [] h k = refl
rows-fuel zero n (x ∷ xs) h k = absurd (omega arith)
rows-fuel (suc m) zero (x ∷ xs) h k = absurd (omega arith)
rows-fuel (suc m) (suc n) (x ∷ xs) h k =
    ap (λ (rows : List (List ℕ)). (x ∷ xs) ∷ rows)
    (rows-fuel m n (behind_row (x ∷ xs)) (omega (arith, behind-next x xs)) (omega (arith, behind-next x xs)))

pub rows_are : (most : ℕ) (bytes : List ℕ) → length bytes ≤ most → rows_from most bytes ≡ rows_of bytes
unfolding rows_of
rows_are most bytes h = rows-fuel most (length bytes) bytes h (omega arith)

-- no rows, and a first one
pub rows_none : rows_of [] ≡ []
unfolding rows_of
rows_none = refl

pub rows_next : (x : ℕ) (xs : List ℕ) → rows_of (x ∷ xs) ≡ (x ∷ xs) ∷ rows_of (behind_row (x ∷ xs))
unfolding rows_of
rows_next x xs =
    ap (λ (rows : List (List ℕ)). (x ∷ xs) ∷ rows)
    (rows-fuel (length xs) (length (behind_row (x ∷ xs))) (behind_row (x ∷ xs)) (behind-next x xs) (omega arith))

-- a row that CR LF ends is one
pub rows-ended : (bytes : List ℕ) → is_ended bytes ≡ true → rows_of bytes ≡ bytes ∷ rows_of (behind_row bytes)
rows-ended [] e = absurd (true≢false (sym e))
rows-ended (x ∷ xs) e = rows_next x xs
