-- Laws of the whole label: its four groups of lines by their bytes.
-- Assumes nothing.
use Prim.Native.Nat.{ℕ}
use mathlib.Core.Path.{◌≡◌, refl, sym, ap, ◌∙◌}
use mathlib.Core.Bool.{true}
use mathlib.Core.List.{List, [], ◌∷◌, ◌++◌, append_assoc}
use Rattle.source.specs.Address.{Elements}
use Rattle.label.specs.declared.Spans.{Spans}
use Rattle.label.specs.declared.shape.Shape.{Shape}
use Rattle.label.specs.declared.shape.Shape.TheVariants.{Bare, NameLine, NameFront, SubLine, SubFront, BothLine, BothFront, SubLineNameFront, TwoLines}
use Rattle.label.specs.declared.shape.Lines.{Lines}
use Rattle.label.specs.declared.shape.Front.{Front}
use Rattle.label.specs.Lines.{line, box_line, spaced, fronted, places, premises_of, lines_of}
use Rattle.label.specs.Label.{ended, label_of}
use Rattle.label.specs.Spans.{text_in2, elements_in}
use Rattle.label.specs.Put.{front_text, behind_front, head_lines, row_lines}
use Rattle.label.specs.Rows.{shape_in, lines_for, front_for}
use Rattle.label.proofs.Places.{ended-append}
use Rattle.label.proofs.Table.{row-lines, row-front}

-- four groups of lines
four_bytes : (a b c d : List (List ℕ)) → ended a ++ (ended b ++ (ended c ++ ended d)) ≡ ended (a ++ (b ++ (c ++ d)))
four_bytes a b c d =
    ap (λ (z : List ℕ). ended a ++ z)
    (ap (λ (z : List ℕ). ended b ++ z) (sym (ended-append c d)) ∙ sym (ended-append b (c ++ d)))
    ∙ sym (ended-append a (b ++ (c ++ d)))

-- of elements, with the premises lines and the front of the table
groups : (e : Elements)
    → ended (head_lines e)
    ++ (ended (premises_of e).lines
    ++ (ended (fronted (premises_of e).front (places e)) ++ ended (spaced e.outward e.inward ∷ [])))
    ≡ label_of e
unfolding label_of lines_of
groups e =
    let rest =
    (premises_of e).lines ++ (fronted (premises_of e).front (places e) ++ (spaced e.outward e.inward ∷ [])) in
    four_bytes (head_lines e) (premises_of e).lines (fronted (premises_of e).front (places e))
    (spaced e.outward e.inward ∷ [])
    ∙ ap ended
    (append_assoc (line e.organisation) (line e.department ++ box_line e.box) rest
    ∙ ap (λ (z : List (List ℕ)). line e.organisation ++ z)
    (append_assoc (line e.department) (box_line e.box) rest))

-- every front is pending at first
pending : (sh : Shape) (e : Spans) → (front_for sh e).pending ≡ true
pending Bare e = refl
pending NameLine e = refl
pending NameFront e = refl
pending SubLine e = refl
pending SubFront e = refl
pending BothLine e = refl
pending BothFront e = refl
pending SubLineNameFront e = refl
pending TwoLines e = refl

-- what the code writes is the label
module _ (a b : List ℕ) (e : Spans) (sh : Shape) (l : Lines) (f : Front)
    (is-shape : sh ≡ shape_in a b e) (is-lines : l ≡ lines_for sh e) (is_front : f ≡ front_for sh e) where
  pub label-bytes : ended (head_lines (elements_in a b e))
      ++ (ended (row_lines a b l)
      ++ (ended (behind_front f.pending (front_text a b f) (places (elements_in a b e)))
      ++ ended (spaced (text_in2 a b e.outward) (text_in2 a b e.inward) ∷ [])))
      ≡ label_of (elements_in a b e)
  unfolding elements_in
  label-bytes =
      rw (
        is-lines,
        is_front,
        pending sh e,
        row-lines a b e sh is-shape,
        row-front a b e sh is-shape,
      )
      (groups (elements_in a b e))
