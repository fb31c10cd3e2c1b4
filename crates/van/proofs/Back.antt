-- "breaks (line end, space, none) and printed bytes together give the bytes back, for any bytes".
-- Assumes nothing.
use Prim.Native.Nat.{ℕ}
use mathlib.Core.Path.{◌≡◌, refl, ap, ◌∙◌}
use mathlib.Core.Bool.{Bool, true, false}
use mathlib.Core.List.{List, [], ◌∷◌, ◌++◌, append_assoc, append-nil}
use borrow.Author.Tests.{eqb-true}
use lib.Dec.{eqb}
use Rattle.van.specs.Fold.{Break, Line, line, onto, lines_in, first_of, left_of, fold_line, fold_all, folded, break_bytes, given_back}
use Rattle.van.proofs.Breaks.{broken-whole}
use Rattle.van.proofs.Folds.{fold-short, fold-long, by_lines}

back-append : (a b : List Line) → given_back (a ++ b) ≡ given_back a ++ given_back b
back-append [] b = refl
back-append (l ∷ ls) b = rw (back-append ls b) (simp append_assoc)

-- one line
back-line : (e : Break) (bytes : List ℕ) → given_back (fold_line (line bytes e)) ≡ bytes ++ break_bytes e
back-line e =
    by_lines (λ bytes. given_back (fold_line (line bytes e)) ≡ bytes ++ break_bytes e)
    (λ bytes h. ap given_back (fold-short e bytes h) ∙ ap (λ (z : List ℕ). bytes ++ z) (append-nil (break_bytes e)))
    (λ bytes h left.
    ap given_back (fold-long e bytes h)
    ∙ (ap (λ (z : List ℕ). (first_of bytes).bytes ++ (break_bytes (first_of bytes).behind ++ z)) left
    ∙ (regroup (first_of bytes).bytes (break_bytes (first_of bytes).behind) (left_of bytes) (break_bytes e)
    ∙ ap (λ (z : List ℕ). z ++ break_bytes e) (broken-whole bytes h))))
  where
    regroup : (a b c d : List ℕ) → a ++ (b ++ (c ++ d)) ≡ (a ++ (b ++ c)) ++ d
    regroup a b c d = simp append_assoc

back-all : (ls : List Line) → given_back (fold_all ls) ≡ given_back ls
back-all [] = refl
back-all (l ∷ ls) =
    back-append (fold_line l) (fold_all ls)
    ∙ (ap (λ (z : List ℕ). z ++ given_back (fold_all ls)) (back-line l.behind l.bytes)
    ∙ (append_assoc l.bytes (break_bytes l.behind) (given_back (fold_all ls))
    ∙ ap (λ (z : List ℕ). l.bytes ++ (break_bytes l.behind ++ z)) (back-all ls)))

back-onto : (b : ℕ) (ls : List Line) → given_back (onto b ls) ≡ b ∷ given_back ls
back-onto b [] = refl
back-onto b (l ∷ ls) = refl

back-lines : (text : List ℕ) → given_back (lines_in text) ≡ text
unfolding lines_in
back-lines [] = refl
back-lines (b ∷ text) = by-test (eqb b 10) refl (back-lines text)
  where
    by-test : (t : Bool) → eqb b 10 ≡ t → given_back (lines_in text) ≡ text → given_back (lines_in (b ∷ text)) ≡ b ∷ text
    by-test true e rest = rw (e, eqb-true b 10 e) (ap (λ (z : List ℕ). 10 ∷ z) rest)
    by-test false e rest = rw e (back-onto b (lines_in text) ∙ ap (λ (z : List ℕ). b ∷ z) rest)

-- any bytes
pub given-back : (text : List ℕ) → given_back (folded text) ≡ text
unfolding folded
given-back text = back-all (lines_in text) ∙ back-lines text
