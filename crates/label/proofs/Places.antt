-- Laws of lines: their bytes one after another, and the front before the first of the places.
-- Assumes nothing.
use Prim.Native.Nat.{ℕ}
use mathlib.Core.Path.{◌≡◌, refl, sym, ap, ◌∙◌}
use mathlib.Core.Bool.{Bool, true, false, ◌&&◌}
use mathlib.Core.List.{List, [], ◌∷◌, ◌++◌, append_assoc, append-nil}
use native.Mathlib.Omega.{arith}
use lib.ListN.{length}
use Rattle.label.specs.Lines.{is_empty, line, box_line, street, street_line, spaced}
use Rattle.label.specs.Label.{ended}
use Rattle.label.specs.Put.{tail_text, lead, place_line, behind_front}

-- lines after lines
pub ended-append : (a b : List (List ℕ)) → ended (a ++ b) ≡ ended a ++ ended b
ended-append [] b = refl
ended-append (l ∷ ls) b =
    ap (λ (z : List ℕ). l ++ (10 ∷ z)) (ended-append ls b) ∙ sym (append_assoc l (10 ∷ ended ls) (ended b))

-- a thoroughfare is its name and what stands beside it
pub street-tail : (n d : List ℕ) → n ++ tail_text d ≡ street n d
street-tail n [] = append-nil n
street-tail n (x ∷ xs) = refl

-- a place of one text is a line
line-street : (n : List ℕ) → line n ≡ street_line n []
line-street [] = refl
line-street (x ∷ xs) = refl

-- the first of the places, and the others
module _ (d : List ℕ) (rest : List (List ℕ)) where
  pub open_step : (p : Bool) (f n : List ℕ)
      → place_line p f n d ++ behind_front (p && is_empty n) f rest ≡ behind_front p f (street_line n d ++ rest)
  open_step true f [] = refl
  open_step false f [] = refl
  open_step true [] (x ∷ xs) = ap (λ (z : List ℕ). z ∷ rest) (street-tail (x ∷ xs) d)
  open_step true (g ∷ gs) (x ∷ xs) =
      ap (λ (z : List ℕ). z ∷ rest)
      (append_assoc (g ∷ gs) (32 ∷ []) ((x ∷ xs) ++ tail_text d)
      ∙ ap (λ (z : List ℕ). (g ∷ gs) ++ (32 ∷ z)) (street-tail (x ∷ xs) d))
  open_step false f (x ∷ xs) = ap (λ (z : List ℕ). z ∷ rest) (street-tail (x ∷ xs) d)

  pub open-bytes : (p : Bool) (f n : List ℕ)
      → ended (place_line p f n d) ++ ended (behind_front (p && is_empty n) f rest) ≡ ended (behind_front p f (street_line n d ++ rest))
  open-bytes p f n = sym (ended-append (place_line p f n d) (behind_front (p && is_empty n) f rest)) ∙ ap ended (open_step p f n)

-- the same of a place of one text
pub open-line : (rest : List (List ℕ)) (p : Bool) (f n : List ℕ)
    → ended (place_line p f n []) ++ ended (behind_front (p && is_empty n) f rest) ≡ ended (behind_front p f (line n ++ rest))
open-line rest p f n =
    open-bytes [] rest p f n ∙ ap (λ (z : List (List ℕ)). ended (behind_front p f (z ++ rest))) (sym (line-street n))

-- and of the last
pub open-last : (p : Bool) (f n : List ℕ) → ended (place_line p f n []) ≡ ended (behind_front p f (line n))
open-last p f n =
    sym (append-nil (ended (place_line p f n [])))
    ∙ (ap (λ (z : List ℕ). ended (place_line p f n []) ++ z) (none (p && is_empty n) f)
    ∙ (open-line [] p f n ∙ ap (λ (z : List (List ℕ)). ended (behind_front p f z)) (append-nil (line n))))
  where
    none : (q : Bool) (g : List ℕ) → [] ≡ ended (behind_front q g [])
    none false g = refl
    none true [] = refl
    none true (x ∷ xs) = refl

-- the three last places, and all places, by their bytes
module _ (p : Bool) (f n m t : List ℕ) where
  pub locality-bytes : ended (place_line p f n [])
      ++ (ended (place_line (p && is_empty n) f m []) ++ ended (place_line ((p && is_empty n) && is_empty m) f t []))
      ≡ ended (behind_front p f (line n ++ (line m ++ line t)))
  locality-bytes =
      ap (λ (z : List ℕ). ended (place_line p f n []) ++ z)
      (ap (λ (z : List ℕ). ended (place_line (p && is_empty n) f m []) ++ z)
      (open-last ((p && is_empty n) && is_empty m) f t)
      ∙ open-line (line t) (p && is_empty n) f m)
      ∙ open-line (line m ++ line t) p f n

module _ (p : Bool) (f n d m e : List ℕ) (rest : List (List ℕ)) where
  pub place-bytes : ended (place_line p f n d)
      ++ (ended (place_line (p && is_empty n) f m e) ++ ended (behind_front ((p && is_empty n) && is_empty m) f rest))
      ≡ ended (behind_front p f (street_line n d ++ (street_line m e ++ rest)))
  place-bytes =
      ap (λ (z : List ℕ). ended (place_line p f n d) ++ z) (open-bytes e rest (p && is_empty n) f m)
      ∙ open-bytes d (street_line m e ++ rest) p f n

-- three groups of lines by their bytes
pub three-bytes : (a b c : List (List ℕ)) → ended a ++ (ended b ++ ended c) ≡ ended (a ++ (b ++ c))
three-bytes a b c =
    ap (λ (z : List ℕ). ended a ++ z) (sym (ended-append b c)) ∙ sym (ended-append a (b ++ c))

-- what may be absent, where it is absent and where it is not
pub tail_none : (t : List ℕ) → length t ≡ 0 → [] ≡ tail_text t
tail_none [] e = refl
tail_none (x ∷ xs) e = absurd (omega arith)

pub tail-some : (t : List ℕ) → (length t ≡ 0 → ⊥) → 32 ∷ t ≡ tail_text t
tail-some [] h = absurd (h refl)
tail-some (x ∷ xs) h = refl

pub line-none : (t : List ℕ) → length t ≡ 0 → [] ≡ ended (line t)
line-none [] e = refl
line-none (x ∷ xs) e = absurd (omega arith)

pub line-some : (t : List ℕ) → (length t ≡ 0 → ⊥) → t ++ (10 ∷ []) ≡ ended (line t)
line-some [] h = absurd (h refl)
line-some (x ∷ xs) h = refl

-- `PO BOX `
abbrev pub po_box : List ℕ
po_box = 80 ∷ 79 ∷ 32 ∷ 66 ∷ 79 ∷ 88 ∷ 32 ∷ []

pub box-none : (t : List ℕ) → length t ≡ 0 → [] ≡ ended (box_line t)
box-none [] e = refl
box-none (x ∷ xs) e = absurd (omega arith)

pub box-some : (t : List ℕ) → (length t ≡ 0 → ⊥) → po_box ++ (t ++ (10 ∷ [])) ≡ ended (box_line t)
box-some [] h = absurd (h refl)
box-some (x ∷ xs) h = refl

pub pair-bytes : (s t : List ℕ) → s ++ (32 ∷ (t ++ (10 ∷ []))) ≡ ended (spaced s t ∷ [])
pair-bytes s t = sym (append_assoc s (32 ∷ t) (10 ∷ []))

pub lead-none : (f : List ℕ) → length f ≡ 0 → [] ≡ lead true f
lead-none [] e = refl
lead-none (x ∷ xs) e = absurd (omega arith)

pub lead-some : (f : List ℕ) → (length f ≡ 0 → ⊥) → f ++ (32 ∷ []) ≡ lead true f
lead-some [] h = absurd (h refl)
lead-some (x ∷ xs) h = refl

module _ (p : Bool) (f : List ℕ) where
  pub place_none : (n d : List ℕ) → length n ≡ 0 → [] ≡ ended (place_line p f n d)
  place_none [] d e = refl
  place_none (x ∷ xs) d e = absurd (omega arith)

  pub place-some : (n d : List ℕ) → (length n ≡ 0 → ⊥)
      → lead p f ++ (n ++ (tail_text d ++ (10 ∷ []))) ≡ ended (place_line p f n d)
  place-some [] d h = absurd (h refl)
  place-some (x ∷ xs) d h =
      sym
      (append_assoc (lead p f) ((x ∷ xs) ++ tail_text d) (10 ∷ [])
      ∙ ap (λ (z : List ℕ). lead p f ++ z) (append_assoc (x ∷ xs) (tail_text d) (10 ∷ [])))
