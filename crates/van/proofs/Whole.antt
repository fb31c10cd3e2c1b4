-- Bytes that are whole lines: those that are short fold to themselves, and a last line keeps its row to itself.
-- Assumes nothing.
use Prim.Native.Nat.{ℕ, suc, ◌+◌, ◌≤◌}
use mathlib.Core.Path.{◌≡◌, refl, sym, ap, ◌∙◌}
use mathlib.Core.Bool.{Bool, true, false}
use mathlib.Core.List.{List, [], ◌∷◌, ◌++◌, append_assoc}
use native.Mathlib.Omega.{arith}
use borrow.Author.Tests.{eqb-true}
use lib.Dec.{eqb}
use lib.ListN.{length, length-append}
use Rattle.label.specs.Label.{ended}
use Rattle.label.specs.Widths.{NoneAbove}
use Rattle.label.proofs.Places.{ended-append}
use Rattle.van.specs.Fold.{columns, rows, line_end, Line, line, onto, lines_in, fold_line, fold_all, folded, texts, folded_bytes}
use Rattle.van.specs.Walk.{line_length, whole_lines}
use Rattle.van.proofs.Folds.{fold-short}
use Rattle.van.proofs.Rows.{texts-append, texts-length, first-line}
use Rattle.van.proofs.Sizes.{text-narrow, narrow_size}

-- some bytes have some line
lines-some : (b : ℕ) (text : List ℕ) → 1 ≤ length (lines_in (b ∷ text))
lines-some b text = omega (arith, ap length (first-line (b ∷ text) (omega arith)).is)

ended-onto : (b : ℕ) (ls : List Line) → 1 ≤ length ls → ended (texts (onto b ls)) ≡ b ∷ ended (texts ls)
ended-onto b [] h = absurd (omega arith)
ended-onto b (l ∷ ls) h = refl

onto-append : (b : ℕ) (ls more : List Line) → 1 ≤ length ls → onto b (ls ++ more) ≡ onto b ls ++ more
onto-append b [] more h = absurd (omega arith)
onto-append b (l ∷ ls) more h = refl

-- the lines of whole lines, each with its end, are the bytes
pub whole-ended : (text : List ℕ) → whole_lines text ≡ true → ended (texts (lines_in text)) ≡ text
unfolding lines_in
whole-ended [] h = refl
whole-ended (b ∷ []) h = rw (h, eqb-true b 10 h)
whole-ended (b ∷ c ∷ text) h = by-test (eqb b 10) refl (whole-ended (c ∷ text) h)
  where
    by-test : (t : Bool) → eqb b 10 ≡ t → ended (texts (lines_in (c ∷ text))) ≡ c ∷ text
        → ended (texts (lines_in (b ∷ c ∷ text))) ≡ b ∷ c ∷ text
    by-test true e rest = rw (e, eqb-true b 10 e) (ap (λ (z : List ℕ). 10 ∷ z) rest)
    by-test false e rest =
        rw e (ended-onto b (lines_in (c ∷ text)) (lines-some c text) ∙ ap (λ (z : List ℕ). b ∷ z) rest)

all_short : (ls : List Line) → NoneAbove columns (texts ls) → fold_all ls ≡ ls
all_short [] h = refl
all_short (l ∷ ls) h = rw (fold-short l.behind l.bytes h.0, all_short ls h.1)

-- "a label whose lines are all at most 36 long folds to itself"
pub folds-to-itself : (text : List ℕ) → whole_lines text ≡ true → NoneAbove columns (texts (lines_in text))
    → folded_bytes text ≡ text
unfolding folded_bytes folded
folds-to-itself text whole narrow =
    ap (λ (ls : List Line). ended (texts ls)) (all_short (lines_in text) narrow) ∙ whole-ended text whole

-- lines that are ended are whole, whatever bytes they have
whole-behind : (l : List ℕ) (c : ℕ) (text : List ℕ) → whole_lines (c ∷ text) ≡ true → whole_lines (l ++ (c ∷ text)) ≡ true
whole-behind [] c text h = h
whole-behind (b ∷ []) c text h = h
whole-behind (b ∷ d ∷ l) c text h = whole-behind (d ∷ l) c text h

whole-end : (text : List ℕ) → whole_lines text ≡ true → whole_lines (10 ∷ text) ≡ true
whole-end [] h = refl
whole-end (c ∷ text) h = h

pub ended-whole : (ls : List (List ℕ)) → whole_lines (ended ls) ≡ true
ended-whole [] = refl
ended-whole (l ∷ ls) = whole-behind l 10 (ended ls) (whole-end (ended ls) (ended-whole ls))

-- what stands behind whole lines is folded by itself
lines-append : (text rest : List ℕ) → whole_lines text ≡ true → lines_in (text ++ rest) ≡ lines_in text ++ lines_in rest
unfolding lines_in
lines-append [] rest h = refl
lines-append (b ∷ []) rest h = rw h
lines-append (b ∷ c ∷ text) rest h = by-test (eqb b 10) refl (lines-append (c ∷ text) rest h)
  where
    by-test : (t : Bool) → eqb b 10 ≡ t → lines_in ((c ∷ text) ++ rest) ≡ lines_in (c ∷ text) ++ lines_in rest
        → lines_in ((b ∷ c ∷ text) ++ rest) ≡ lines_in (b ∷ c ∷ text) ++ lines_in rest
    by-test true e more = rw e (ap (λ (ls : List Line). line [] line_end ∷ ls) more)
    by-test false e more =
        rw e (ap (onto b) more ∙ onto-append b (lines_in (c ∷ text)) (lines_in rest) (lines-some c text))

all_append : (a b : List Line) → fold_all (a ++ b) ≡ fold_all a ++ fold_all b
all_append [] b = refl
all_append (l ∷ ls) b = rw (all_append ls b) (sym (append_assoc (fold_line l) (fold_all ls) (fold_all b)))

pub folded-append : (text rest : List ℕ) → whole_lines text ≡ true → folded (text ++ rest) ≡ folded text ++ folded rest
unfolding folded
folded-append text rest h = ap fold_all (lines-append text rest h) ∙ all_append (lines_in text) (lines_in rest)

-- one line that is short
lines-one : (bytes : List ℕ) → line_length bytes ≡ length bytes → lines_in (bytes ++ (10 ∷ [])) ≡ line bytes line_end ∷ []
unfolding lines_in
lines-one [] h = refl
lines-one (b ∷ bytes) h = by-test (eqb b 10) refl (lines-one bytes)
  where
    by-test : (t : Bool) → eqb b 10 ≡ t
        → (line_length bytes ≡ length bytes → lines_in (bytes ++ (10 ∷ [])) ≡ line bytes line_end ∷ [])
        → lines_in ((b ∷ bytes) ++ (10 ∷ [])) ≡ line (b ∷ bytes) line_end ∷ []
    by-test true e more = let z : 0 ≡ suc (length bytes) = rw e at h in absurd (omega arith)
    by-test false e more = rw e (ap (onto b) (more (let z : suc (line_length bytes) ≡ suc (length bytes) = rw e at h in omega arith)))

-- "the postcode keeps the last line to itself"
module _ (text last : List ℕ) (whole : whole_lines text ≡ true) (one : line_length last ≡ length last)
    (short : length last ≤ columns) where
  alone : folded (last ++ (10 ∷ [])) ≡ line last line_end ∷ []
  unfolding folded
  alone = ap fold_all (lines-one last one) ∙ all_short (line last line_end ∷ []) (short, tt)

  pub last_line : folded (text ++ (last ++ (10 ∷ []))) ≡ folded text ++ (line last line_end ∷ [])
  last_line = folded-append text (last ++ (10 ∷ [])) whole ∙ ap (λ (ls : List Line). folded text ++ ls) alone

  pub last-bytes : folded_bytes (text ++ (last ++ (10 ∷ []))) ≡ folded_bytes text ++ (last ++ (10 ∷ []))
  unfolding folded_bytes
  last-bytes =
      ap (λ (ls : List Line). ended (texts ls)) last_line
      ∙ (ap ended (texts-append (folded text) (line last line_end ∷ []))
      ∙ ended-append (texts (folded text)) (last ∷ []))

  -- so many bytes at most: five lines and the last
  pub last-size : length (folded (text ++ (last ++ (10 ∷ [])))) ≤ rows
      → length (folded_bytes (text ++ (last ++ (10 ∷ [])))) ≤ 185 + (length last + 1)
  unfolding folded_bytes
  last-size h =
      omega (
        arith,
        ap length last-bytes,
        length-append (ended (texts (folded text))) (last ++ (10 ∷ [])),
        length-append last (10 ∷ []),
        narrow_size (texts (folded text)) (text-narrow text),
        texts-length (folded text),
        ap length last_line,
        length-append (folded text) (line last line_end ∷ []),
      )
