-- The row of the table of premises that the code decides is the table's.
-- Assumes nothing.
use Prim.Native.Nat.{ℕ, ◌+◌, ◌/◌, ◌%◌, ◌≤◌, ◌<◌}
use mathlib.Core.Path.{◌≡◌, refl, ap, ◌∙◌}
use mathlib.Core.Bool.{Bool, true, false, cond}
use mathlib.Core.List.{List, [], ◌∷◌, ◌++◌, append-nil}
use native.Mathlib.Omega.{arith}
use borrow.Author.Tests.{ne_eqb, lt-ltb, le-ltb}
use lib.Dec.{eqb, ltb}
use Rattle.field.specs.Text.{numeric_like}
use Rattle.field.proofs.Tests.{and-true, and-false}
use Rattle.label.specs.declared.Spans.{Spans}
use Rattle.label.specs.declared.shape.Shape.{Shape}
use Rattle.label.specs.declared.shape.Shape.TheVariants.{Bare, NameLine, NameFront, SubLine, SubFront, BothLine, BothFront, SubLineNameFront, TwoLines}
use Rattle.label.specs.Lines.{is_empty, line, street_line, spaced, number_text, table, premises}
use Rattle.label.specs.Spans.{text_in2}
use Rattle.label.specs.Put.{tail_text, front_text, row_lines}
use Rattle.label.specs.Rows.{shape_of, shape_in, lines_for, front_for}

-- what a row gives, of the texts
abbrev shape_lines : Shape → (s b : List ℕ) → List (List ℕ)
shape_lines Bare s b = []
shape_lines NameLine s b = street_line b [] ++ []
shape_lines NameFront s b = []
shape_lines SubLine s b = street_line s [] ++ []
shape_lines SubFront s b = []
shape_lines BothLine s b = street_line s b ++ []
shape_lines BothFront s b = []
shape_lines SubLineNameFront s b = street_line s [] ++ []
shape_lines TwoLines s b = street_line s [] ++ line b

abbrev shape_front : Shape → (s b n : List ℕ) → List ℕ
shape_front Bare s b n = n ++ []
shape_front NameLine s b n = n ++ []
shape_front NameFront s b n = b ++ []
shape_front SubLine s b n = n ++ []
shape_front SubFront s b n = n ++ (s ++ [])
shape_front BothLine s b n = n ++ []
shape_front BothFront s b n = s ++ tail_text b
shape_front SubLineNameFront s b n = b ++ []
shape_front TwoLines s b n = n ++ []

-- the spans of a row give its texts
module _ (a b : List ℕ) (e : Spans) where
  span_lines : (sh : Shape)
      → row_lines a b (lines_for sh e) ≡ shape_lines sh (text_in2 a b e.sub_building) (text_in2 a b e.building)
  span_lines Bare = refl
  span_lines NameLine = refl
  span_lines NameFront = refl
  span_lines SubLine = refl
  span_lines SubFront = refl
  span_lines BothLine = refl
  span_lines BothFront = refl
  span_lines SubLineNameFront = refl
  span_lines TwoLines = refl

  span-front : (sh : Shape)
      → front_text a b (front_for sh e)
      ≡ shape_front sh (text_in2 a b e.sub_building) (text_in2 a b e.building) (number_text e.number)
  unfolding number_text
  span-front Bare = refl
  span-front NameLine = refl
  span-front NameFront = refl
  span-front SubLine = refl
  span-front SubFront = refl
  span-front BothLine = refl
  span-front BothFront = refl
  span-front SubLineNameFront = refl
  span-front TwoLines = refl

-- the lines of the row that applies are the table's
table-lines : (s b n : List ℕ) (y : Bool) → shape_lines (shape_of s b (is_empty n) y) s b ≡ (table s b n y).lines
unfolding shape_of
table-lines [] [] n y = refl
table-lines [] (b ∷ bs) [] y = rw (and-true (numeric_like (b ∷ bs))) (either (numeric_like (b ∷ bs)))
  where
    either : (t : Bool)
        → shape_lines (cond t NameFront NameLine) [] (b ∷ bs)
        ≡ (cond t (premises [] (b ∷ bs)) (premises ((b ∷ bs) ∷ []) [])).lines
    either true = refl
    either false = refl
table-lines [] (b ∷ bs) (n ∷ ns) y = rw (and-false (numeric_like (b ∷ bs)))
table-lines (s ∷ ss) [] n true = refl
table-lines (s ∷ ss) [] n false = refl
table-lines (s ∷ ss) (b ∷ bs) [] y =
    rw (and-true (numeric_like (b ∷ bs))) (either (numeric_like (s ∷ ss)) (numeric_like (b ∷ bs)))
  where
    either : (t u : Bool)
        → shape_lines (cond t (cond u BothFront BothLine) (cond u SubLineNameFront TwoLines)) (s ∷ ss) (b ∷ bs)
        ≡ (cond t
        (cond u (premises [] (spaced (s ∷ ss) (b ∷ bs))) (premises (spaced (s ∷ ss) (b ∷ bs) ∷ []) []))
        (cond u (premises ((s ∷ ss) ∷ []) (b ∷ bs)) (premises ((s ∷ ss) ∷ (b ∷ bs) ∷ []) []))).lines
    either true true = refl
    either true false = refl
    either false true = refl
    either false false = refl
table-lines (s ∷ ss) (b ∷ bs) (n ∷ ns) y =
    rw (and-false (numeric_like (b ∷ bs))) (either (numeric_like (s ∷ ss)))
  where
    either : (t : Bool)
        → shape_lines (cond t BothLine TwoLines) (s ∷ ss) (b ∷ bs)
        ≡ (cond t (premises (spaced (s ∷ ss) (b ∷ bs) ∷ []) (n ∷ ns)) (premises ((s ∷ ss) ∷ (b ∷ bs) ∷ []) (n ∷ ns))).lines
    either true = refl
    either false = refl

-- and so is its front
table-front : (s b n : List ℕ) (y : Bool) → shape_front (shape_of s b (is_empty n) y) s b n ≡ (table s b n y).front
unfolding shape_of
table-front [] [] n y = append-nil n
table-front [] (b ∷ bs) [] y = rw (and-true (numeric_like (b ∷ bs))) (either (numeric_like (b ∷ bs)))
  where
    either : (t : Bool)
        → shape_front (cond t NameFront NameLine) [] (b ∷ bs) []
        ≡ (cond t (premises [] (b ∷ bs)) (premises ((b ∷ bs) ∷ []) [])).front
    either true = append-nil (b ∷ bs)
    either false = refl
table-front [] (b ∷ bs) (n ∷ ns) y = rw (and-false (numeric_like (b ∷ bs))) (append-nil (n ∷ ns))
table-front (s ∷ ss) [] n true = ap (λ (z : List ℕ). n ++ z) (append-nil (s ∷ ss))
table-front (s ∷ ss) [] n false = append-nil n
table-front (s ∷ ss) (b ∷ bs) [] y =
    rw (and-true (numeric_like (b ∷ bs))) (either (numeric_like (s ∷ ss)) (numeric_like (b ∷ bs)))
  where
    either : (t u : Bool)
        → shape_front (cond t (cond u BothFront BothLine) (cond u SubLineNameFront TwoLines)) (s ∷ ss) (b ∷ bs) []
        ≡ (cond t
        (cond u (premises [] (spaced (s ∷ ss) (b ∷ bs))) (premises (spaced (s ∷ ss) (b ∷ bs) ∷ []) []))
        (cond u (premises ((s ∷ ss) ∷ []) (b ∷ bs)) (premises ((s ∷ ss) ∷ (b ∷ bs) ∷ []) []))).front
    either true true = refl
    either true false = refl
    either false true = append-nil (b ∷ bs)
    either false false = refl
table-front (s ∷ ss) (b ∷ bs) (n ∷ ns) y =
    rw (and-false (numeric_like (b ∷ bs))) (either (numeric_like (s ∷ ss)))
  where
    either : (t : Bool)
        → shape_front (cond t BothLine TwoLines) (s ∷ ss) (b ∷ bs) (n ∷ ns)
        ≡ (cond t (premises (spaced (s ∷ ss) (b ∷ bs) ∷ []) (n ∷ ns)) (premises ((s ∷ ss) ∷ (b ∷ bs) ∷ []) (n ∷ ns))).front
    either true = append-nil (n ∷ ns)
    either false = append-nil (n ∷ ns)

-- the number's text
pub number-0 : (n : ℕ) → n ≡ 0 → [] ≡ number_text n
unfolding number_text
number-0 n e = simp e

module _ (n : ℕ) (some : n ≡ 0 → ⊥) where
  pub number-1 : n < 10 → (48 + n) ∷ [] ≡ number_text n
  unfolding number_text
  number-1 a = simp (ne_eqb n 0 some, lt-ltb n 10 a)

  pub number-2 : 10 ≤ n → n < 100 → (48 + n / 10 % 10) ∷ (48 + n % 10) ∷ [] ≡ number_text n
  unfolding number_text
  number-2 a b =
      rw (let q : n / 10 % 10 ≡ n / 10 = omega arith in q) (simp (ne_eqb n 0 some, le-ltb n 10 a, lt-ltb n 100 b))

  pub number-3 : 10 ≤ n → 100 ≤ n → n < 1000
      → (48 + n / 100) ∷ (48 + n / 10 % 10) ∷ (48 + n % 10) ∷ [] ≡ number_text n
  unfolding number_text
  number-3 a b d = simp (ne_eqb n 0 some, le-ltb n 10 a, le-ltb n 100 b, lt-ltb n 1000 d)

  pub number-4 : 10 ≤ n → 100 ≤ n → 1000 ≤ n
      → (48 + n / 1000) ∷ (48 + n / 100 % 10) ∷ (48 + n / 10 % 10) ∷ (48 + n % 10) ∷ [] ≡ number_text n
  unfolding number_text
  number-4 a b d = simp (ne_eqb n 0 some, le-ltb n 10 a, le-ltb n 100 b, le-ltb n 1000 d)

-- there is no text of a number where it is 0
number-none : (n : ℕ) → eqb n 0 ≡ is_empty (number_text n)
unfolding number_text
number-none n = by_tests (eqb n 0) (ltb n 10) (ltb n 100) (ltb n 1000)
  where
    by_tests : (p q r s : Bool)
        → p
        ≡ is_empty
        (cond p []
        (cond q ((48 + n) ∷ [])
        (cond r ((48 + n / 10) ∷ (48 + n % 10) ∷ [])
        (cond s ((48 + n / 100) ∷ (48 + n / 10 % 10) ∷ (48 + n % 10) ∷ [])
        ((48 + n / 1000) ∷ (48 + n / 100 % 10) ∷ (48 + n / 10 % 10) ∷ (48 + n % 10) ∷ [])))))
    by_tests true q r s = refl
    by_tests false true r s = refl
    by_tests false false true s = refl
    by_tests false false false true = refl
    by_tests false false false false = refl

-- the row that the code decides: its lines and its front are those of the table of premises
module _ (a b : List ℕ) (e : Spans) (sh : Shape) (is-shape : sh ≡ shape_in a b e) where
  pub row-lines : row_lines a b (lines_for sh e)
      ≡ (table (text_in2 a b e.sub_building) (text_in2 a b e.building) (number_text e.number) e.concatenation
      ).lines
  row-lines =
      span_lines a b e sh
      ∙ rw (is-shape, number-none e.number)
      (table-lines (text_in2 a b e.sub_building) (text_in2 a b e.building) (number_text e.number)
      e.concatenation)

  pub row-front : front_text a b (front_for sh e)
      ≡ (table (text_in2 a b e.sub_building) (text_in2 a b e.building) (number_text e.number) e.concatenation
      ).front
  row-front =
      span-front a b e sh
      ∙ rw (is-shape, number-none e.number)
      (table-front (text_in2 a b e.sub_building) (text_in2 a b e.building) (number_text e.number)
      e.concatenation)
