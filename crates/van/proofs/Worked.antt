-- The issue's examples, computed.
-- Assumes nothing.
use Prim.Native.Nat.{ℕ}
use mathlib.Core.Path.{◌≡◌, refl}
use mathlib.Core.List.{List, [], ◌∷◌, ◌++◌}
use lib.ListN.{replicate}
use Rattle.van.specs.Fold.{lines_in, space_within, fold_by, folded, folded_bytes}
use Rattle.van.specs.Walk.{text_rows}

-- so many A, and so many X
abbrev a : ℕ → List ℕ
a n = replicate n 65

abbrev x : ℕ → List ℕ
x n = replicate n 88

-- "36 A: one line. 37 A: 36 and 1."
one_line : text_rows (a 36) ≡ a 36 ∷ []
unfolding text_rows folded lines_in space_within fold_by
one_line = refl

one_more : text_rows (a 37) ≡ a 36 ∷ a 1 ∷ []
unfolding text_rows folded lines_in space_within fold_by
one_more = refl

-- "36 A, space, B: two lines. 37 A, space, B: 36 A, then `A B`."
at-the-edge : text_rows (a 36 ++ (32 ∷ 66 ∷ [])) ≡ a 36 ∷ (66 ∷ []) ∷ []
unfolding text_rows folded lines_in space_within fold_by
at-the-edge = refl

past-the-edge : text_rows (a 37 ++ (32 ∷ 66 ∷ [])) ≡ a 36 ∷ (65 ∷ 32 ∷ 66 ∷ []) ∷ []
unfolding text_rows folded lines_in space_within fold_by
past-the-edge = refl

-- "`UNIT 7 ` and 40 X: `UNIT 7`, 36 X, 4 X."
abbrev unit : List ℕ
unit = 85 ∷ 78 ∷ 73 ∷ 84 ∷ 32 ∷ 55 ∷ []

unit-alone : text_rows (unit ++ (32 ∷ x 40)) ≡ unit ∷ x 36 ∷ x 4 ∷ []
unfolding text_rows folded lines_in space_within fold_by
unit-alone = refl

-- "36 A, two spaces, B: 36 A, then ` B`."
two-spaces : text_rows (a 36 ++ (32 ∷ 32 ∷ 66 ∷ [])) ≡ a 36 ∷ (32 ∷ 66 ∷ []) ∷ []
unfolding text_rows folded lines_in space_within fold_by
two-spaces = refl

-- no bytes have no line, a line end has an empty one, and so has a break with nothing behind it
no_line : text_rows [] ≡ []
unfolding text_rows folded lines_in
no_line = refl

empty-line : folded_bytes (10 ∷ []) ≡ 10 ∷ []
unfolding folded_bytes folded lines_in fold_by
empty-line = refl

nothing_left : text_rows (a 36 ++ (32 ∷ [])) ≡ a 36 ∷ [] ∷ []
unfolding text_rows folded lines_in space_within fold_by
nothing_left = refl

-- each line by itself, with its end
by-themselves : folded_bytes (a 37 ++ (10 ∷ 66 ∷ 10 ∷ [])) ≡ a 36 ++ (10 ∷ 65 ∷ 10 ∷ 66 ∷ 10 ∷ [])
unfolding folded_bytes folded lines_in space_within fold_by
by-themselves = refl
