-- The rows of a line and of any bytes, as code goes from one to the next.
-- Assumes nothing.
use Prim.Native.Nat.{ℕ, suc, ◌+◌, ◌≤◌, ◌<◌}
use mathlib.Core.Path.{◌≡◌, refl, sym, ap, ◌∙◌}
use mathlib.Core.Bool.{Bool, true, false}
use mathlib.Core.List.{List, [], ◌∷◌, ◌++◌}
use native.Mathlib.Omega.{arith}
use native.Mathlib.Numerals.{add-one}
use lib.Dec.{eqb}
use lib.ListN.{length, take, drop}
use Rattle.van.specs.Fold.{columns, Break, line_end, none, Line, line, onto, lines_in, first_of, left_of, fold_line, fold_all, folded, texts}
use Rattle.van.specs.Walk.{line_length, line_rows, text_rows}
use Rattle.van.proofs.Folds.{fold-short, fold-long, by_lines}

pub texts-append : (a b : List Line) → texts (a ++ b) ≡ texts a ++ texts b
texts-append [] b = refl
texts-append (l ∷ ls) b = ap (λ (z : List (List ℕ)). l.bytes ∷ z) (texts-append ls b)

pub texts-length : (ls : List Line) → length (texts ls) ≡ length ls
texts-length [] = refl
texts-length (l ∷ ls) = ap suc (texts-length ls)

-- one row, or the first and those of what is left
pub rows_short : (bytes : List ℕ) → length bytes ≤ columns → line_rows bytes ≡ bytes ∷ []
unfolding line_rows
rows_short bytes h = ap texts (fold-short none bytes h)

pub rows_long : (bytes : List ℕ) → columns < length bytes → line_rows bytes ≡ (first_of bytes).bytes ∷ line_rows (left_of bytes)
unfolding line_rows
rows_long bytes h = ap texts (fold-long none bytes h)

-- what stands behind a line does not change its rows
pub rows-any : (e : Break) (bytes : List ℕ) → texts (fold_line (line bytes e)) ≡ line_rows bytes
rows-any e =
    by_lines (λ bytes. texts (fold_line (line bytes e)) ≡ line_rows bytes)
    (λ bytes h. ap texts (fold-short e bytes h) ∙ sym (rows_short bytes h))
    (λ bytes h left.
    ap texts (fold-long e bytes h)
    ∙ (ap (λ (z : List (List ℕ)). (first_of bytes).bytes ∷ z) left ∙ sym (rows_long bytes h)))

-- the first line of bytes, and the lines behind it
pub record First (text : List ℕ) : Type 0 where
  pub behind : Break
  pub is : lines_in text ≡ line (take (line_length text) text) behind ∷ lines_in (drop (suc (line_length text)) text)

first-onto : (b : ℕ) (s : List ℕ) → eqb b 10 ≡ false → (1 ≤ length s → First s) → First (b ∷ s)
unfolding lines_in
first-onto b [] e more = record { behind = none; is = rw e }
first-onto b (x ∷ s) e more =
    let f = more (omega arith) in record { behind = f.behind; is = rw e (ap (onto b) f.is) }

pub first-line : (text : List ℕ) → 1 ≤ length text → First text
unfolding lines_in
first-line [] h = absurd (omega arith)
first-line (b ∷ s) h = by-test (eqb b 10) refl (first-line s)
  where
    by-test : (t : Bool) → eqb b 10 ≡ t → (1 ≤ length s → First s) → First (b ∷ s)
    by-test true e more = record { behind = line_end; is = rw e }
    by-test false e more = first-onto b s e more

-- no rows, or those of the first line and of what is left
pub rows_none : (text : List ℕ) → length text ≤ 0 → text_rows text ≡ []
unfolding text_rows folded lines_in
rows_none [] h = refl
rows_none (b ∷ text) h = absurd (omega arith)

pub rows_next : (text : List ℕ) → 0 < length text
    → text_rows text ≡ line_rows (take (line_length text) text) ++ text_rows (drop (line_length text + 1) text)
unfolding text_rows folded
rows_next text h =
    let f = first-line text h in
    let n = line_length text in
    rw add-one
    (ap (λ (ls : List Line). texts (fold_all ls)) f.is
    ∙ (texts-append (fold_line (line (take n text) f.behind)) (fold_all (lines_in (drop (suc n) text)))
    ∙ ap (λ (z : List (List ℕ)). z ++ texts (fold_all (lines_in (drop (suc n) text)))) (rows-any f.behind (take n text))))

pub line_low : (text : List ℕ) → line_length text ≤ length text
line_low [] = omega arith
line_low (b ∷ text) = by-test (eqb b 10) refl (line_low text)
  where
    by-test : (t : Bool) → eqb b 10 ≡ t → line_length text ≤ length text → line_length (b ∷ text) ≤ suc (length text)
    by-test true e h = rw e (omega arith)
    by-test false e h = rw e (omega arith)
