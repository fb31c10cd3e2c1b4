-- "no printed line is longer than 36", and so many bytes at most.
-- Assumes nothing.
use Prim.Native.Nat.{ℕ, ◌*◌, ◌≤◌, ◌<◌}
use mathlib.Core.Path.{◌≡◌}
use mathlib.Core.List.{List, [], ◌∷◌, ◌++◌}
use native.Mathlib.Omega.{arith}
use lib.ListN.{length, length-append}
use lib.Seq.{length-take-le}
use Rattle.label.specs.Label.{ended}
use Rattle.label.specs.Widths.{NoneAbove}
use Rattle.van.specs.Fold.{columns, rows, Line, space_within, printed_at, first_of, fold_line, fold_all, lines_in, folded, texts, folded_bytes}
use Rattle.van.specs.Walk.{line_rows}
use Rattle.van.proofs.Breaks.{broken-in}
use Rattle.van.proofs.Folds.{by_lines}
use Rattle.van.proofs.Rows.{texts-append, texts-length, rows_short, rows_long, rows-any}

pub first-length : (bytes : List ℕ) → columns < length bytes
    → length (first_of bytes).bytes ≡ printed_at (space_within columns bytes)
first-length bytes h =
    length-take-le (printed_at (space_within columns bytes)) bytes (omega (arith, (broken-in bytes).few))

pub narrow-append : (a b : List (List ℕ)) → NoneAbove columns a → NoneAbove columns b → NoneAbove columns (a ++ b)
narrow-append [] b h k = k
narrow-append (l ∷ ls) b h k = (h.0, narrow-append ls b h.1 k)

pub line-narrow : (bytes : List ℕ) → NoneAbove columns (line_rows bytes)
line-narrow =
    by_lines (λ bytes. NoneAbove columns (line_rows bytes)) (λ bytes h. rw (rows_short bytes h) (h, tt))
    (λ bytes h left.
    rw (rows_long bytes h) (omega (arith, first-length bytes h, (broken-in bytes).few), left))

all-narrow : (ls : List Line) → NoneAbove columns (texts (fold_all ls))
all-narrow [] = tt
all-narrow (l ∷ ls) =
    rw (texts-append (fold_line l) (fold_all ls), rows-any l.behind l.bytes)
    (narrow-append (line_rows l.bytes) (texts (fold_all ls)) (line-narrow l.bytes) (all-narrow ls))

pub text-narrow : (text : List ℕ) → NoneAbove columns (texts (folded text))
unfolding folded
text-narrow text = all-narrow (lines_in text)

pub narrow_size : (ls : List (List ℕ)) → NoneAbove columns ls → length (ended ls) ≤ 37 * length ls
narrow_size [] h = omega arith
narrow_size (l ∷ ls) h = rw (length-append l (10 ∷ ended ls)) (omega (arith, h.0, narrow_size ls h.1))

-- "at most 222"
pub at-most-222 : (text : List ℕ) → length (folded text) ≤ rows → length (folded_bytes text) ≤ 222
unfolding folded_bytes
at-most-222 text h =
    omega (arith, narrow_size (texts (folded text)) (text-narrow text), texts-length (folded text))
