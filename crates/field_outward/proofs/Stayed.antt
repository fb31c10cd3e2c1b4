-- Every answer is the one that document 01's sentence gives, with the letters named: the rows of marks say the same.
-- Assumes nothing.
use Prim.Native.Nat.{ℕ, zero, suc, ◌+◌, ◌-◌, ◌<◌}
use mathlib.Core.Path.{◌≡◌, refl, sym, ap, ◌∙◌}
use mathlib.Core.Bool.{Bool, true, false, cond, not, ◌&&◌}
use mathlib.Core.List.{List, [], ◌∷◌}
use native.Mathlib.Omega.{arith}
use lib.Dec.{eqb}
use lib.ListN.{length, get_or}
use Rattle.field.specs.Test.{elem}
use Rattle.field.specs.Text.{letter}
use Rattle.field.proofs.Tests.{and_left, and_right, range-low, range-high}
use Rattle.field_outward.specs.Letters.{●, first_row, second_row, third_row, marked}
use Rattle.field_outward.specs.Outward.{sequence_from, patterns, allowed, letters_by, letters_fault, outward_fault}

-- "the first is not Q, V, X; the second not I, Z; a third is one of A B C D E F G H J K M N P R S T U V W X Y", by how
-- many letters stand before it
abbrev named : ℕ → ℕ → Bool
named zero b = not (elem b (81 ∷ 86 ∷ 88 ∷ []))
named (suc zero) b = not (elem b (73 ∷ 90 ∷ []))
named (suc (suc more)) b =
    elem b
    (65 ∷ 66 ∷ 67 ∷ 68 ∷ 69 ∷ 70 ∷ 71 ∷ 72 ∷ 74 ∷ 75 ∷ 77 ∷ 78 ∷ 80 ∷ 82 ∷ 83 ∷ 84 ∷ 85 ∷ 86 ∷ 87 ∷ 88 ∷ 89 ∷ [])

-- two answers that are the same
abbrev alike : Bool → Bool → Bool
alike t u = cond t u (not u)

alike_same : (t u : Bool) → alike t u ≡ true → t ≡ u
alike_same true true e = refl
alike_same true false e = sym e
alike_same false true e = e
alike_same false false e = refl

-- whether a row of marks and a test of letters agree from a letter on
abbrev agree : (ℕ → Bool) → List ℕ → ℕ → Bool
agree test [] b = true
agree test (mark ∷ marks) b = alike (eqb mark ●) (test b) && agree test marks (suc b)

agree_at : (test : ℕ → Bool) (row : List ℕ) (first k : ℕ) → agree test row first ≡ true → k < length row
    → eqb (get_or row k 0) ● ≡ test (first + k)
agree_at test [] first k a h = absurd (omega arith)
agree_at test (mark ∷ marks) first zero a h =
    alike_same (eqb mark ●) (test first) (and_left _ (agree test marks (suc first)) a)
    ∙ ap test (let z : first ≡ first + 0 = omega arith in z)
agree_at test (mark ∷ marks) first (suc k) a h =
    agree_at test marks (suc first) k (and_right (alike (eqb mark ●) (test first)) _ a) (omega arith)
    ∙ ap test (let z : suc first + k ≡ first + suc k = omega arith in z)

-- A to Z
row_named : (test : ℕ → Bool) (row : List ℕ) (b : ℕ) → length row ≡ 26 → agree test row 65 ≡ true → letter b ≡ true
    → marked row b ≡ test b
row_named test row b size a e =
    let low = range-low 65 90 b e in
    let high = range-high 65 90 b e in
    rw e (agree_at test row 65 (b - 65) a (omega arith) ∙ ap test (let z : 65 + (b - 65) ≡ b = omega arith in z))

letters-named : (before b : ℕ) → letter b ≡ true → allowed before b ≡ named before b
unfolding allowed
letters-named zero b e = row_named (named 0) first_row b refl refl e
letters-named (suc zero) b e = row_named (named 1) second_row b refl refl e
letters-named (suc (suc more)) b e = row_named (named 2) third_row b refl refl e

-- the letters of a code, and a whole code, as they were judged with the letters named
letters-stay : (before at : ℕ) (s : List ℕ) → letters_fault before at s ≡ letters_by named before at s
letters-stay before at [] = refl
letters-stay before at (x ∷ xs) =
    by-letter (letter x) refl (letters-stay (suc before) (suc at) xs) (letters-stay before (suc at) xs)
  where
    by-letter : (t : Bool) → letter x ≡ t → letters_fault (suc before) (suc at) xs ≡ letters_by named (suc before) (suc at) xs
        → letters_fault before (suc at) xs ≡ letters_by named before (suc at) xs
        → cond t (cond (allowed before x) (letters_fault (suc before) (suc at) xs) at) (letters_fault before (suc at) xs)
        ≡ cond t (cond (named before x) (letters_by named (suc before) (suc at) xs) at) (letters_by named before (suc at) xs)
    by-letter true e later other = rw (letters-named before x e, later)
    by-letter false e later other = other

abbrev outward_before : List ℕ → ℕ
outward_before s = cond (eqb (length s) 4 && elem (sequence_from 0 s) patterns) (letters_by named 0 1 s) 1

pub every-answer-stays : (s : List ℕ) → outward_fault s ≡ outward_before s
unfolding outward_fault
every-answer-stays s = rw (letters-stay 0 1 s)
