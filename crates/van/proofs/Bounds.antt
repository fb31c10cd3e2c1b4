-- Rows and their bytes are no more than twice the bytes that are folded, and one.
-- Assumes nothing.
use Prim.Native.Nat.{ℕ, suc, ◌+◌, ◌*◌, ◌≤◌}
use mathlib.Core.Path.{◌≡◌, refl}
use mathlib.Core.Bool.{Bool, true, false}
use mathlib.Core.List.{List, [], ◌∷◌}
use native.Mathlib.Omega.{arith}
use lib.Dec.{eqb}
use lib.ListN.{length, length-append, length-drop}
use Rattle.label.specs.Label.{ended}
use Rattle.label.proofs.Places.{ended-append}
use Rattle.van.specs.Fold.{columns, Line, onto, lines_in, space_within, done_at, first_of, left_of, fold_line, fold_all, folded, texts}
use Rattle.van.specs.Walk.{line_rows, text_rows}
use Rattle.van.proofs.Breaks.{broken-in}
use Rattle.van.proofs.Folds.{by_lines}
use Rattle.van.proofs.Rows.{texts-append, rows_short, rows_long, rows-any}
use Rattle.van.proofs.Sizes.{first-length}

pub rows_few : (ls : List (List ℕ)) → length ls ≤ length (ended ls)
rows_few [] = omega arith
rows_few (l ∷ ls) = rw (length-append l (10 ∷ ended ls)) (omega (arith, rows_few ls))

pub line-bytes : (bytes : List ℕ) → length (ended (line_rows bytes)) ≤ 2 * length bytes + 1
line-bytes =
    by_lines (λ bytes. length (ended (line_rows bytes)) ≤ 2 * length bytes + 1)
    (λ bytes h. rw (rows_short bytes h, length-append bytes (10 ∷ [])) (omega arith))
    (λ bytes h left.
    rw (rows_long bytes h, length-append (first_of bytes).bytes (10 ∷ ended (line_rows (left_of bytes))))
    (omega (
      arith,
      left,
      first-length bytes h,
      (broken-in bytes).some,
      (broken-in bytes).few,
      (broken-in bytes).low,
      (broken-in bytes).high,
      length-drop (done_at (space_within columns bytes)) bytes,
    )))

-- twice the bytes of each line, and one
abbrev weight : List Line → ℕ
weight [] = 0
weight (l ∷ ls) = 2 * length l.bytes + 1 + weight ls

all-bytes : (ls : List Line) → length (ended (texts (fold_all ls))) ≤ weight ls
all-bytes [] = omega arith
all-bytes (l ∷ ls) =
    rw (
      texts-append (fold_line l) (fold_all ls),
      rows-any l.behind l.bytes,
      ended-append (line_rows l.bytes) (texts (fold_all ls)),
      length-append (ended (line_rows l.bytes)) (ended (texts (fold_all ls))),
    )
    (omega (arith, line-bytes l.bytes, all-bytes ls))

onto-weight : (b n : ℕ) (ls : List Line) → weight ls ≤ 2 * n + 1 → weight (onto b ls) ≤ 2 * suc n + 1
onto-weight b n [] h = omega arith
onto-weight b n (l ∷ ls) h = omega arith

lines-weight : (text : List ℕ) → weight (lines_in text) ≤ 2 * length text + 1
unfolding lines_in
lines-weight [] = omega arith
lines-weight (b ∷ text) = by-test (eqb b 10) refl (lines-weight text)
  where
    by-test : (t : Bool) → eqb b 10 ≡ t → weight (lines_in text) ≤ 2 * length text + 1
        → weight (lines_in (b ∷ text)) ≤ 2 * suc (length text) + 1
    by-test true e h = rw e (omega arith)
    by-test false e h = rw e (onto-weight b (length text) (lines_in text) h)

pub text-bytes : (text : List ℕ) → length (ended (text_rows text)) ≤ 2 * length text + 1
unfolding text_rows folded
text-bytes text = omega (arith, all-bytes (lines_in text), lines-weight text)
