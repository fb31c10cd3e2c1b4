-- Of which pieces the parts of a label are made, as the code writes and counts them.
-- Assumes nothing.
use Prim.Native.Nat.{ℕ}
use mathlib.Core.Path.{◌≡◌, refl}
use mathlib.Core.Bool.{true, false}
use mathlib.Core.List.{List, [], ◌∷◌}
use lib.ListN.{length}
use Rattle.label.specs.declared.Span.{Span}
use Rattle.label.specs.declared.Spans.{Spans}
use Rattle.label.specs.declared.shape.Shape.{Shape}
use Rattle.label.specs.declared.shape.Lines.{Lines}
use Rattle.label.specs.declared.shape.Front.{Front}
use Rattle.label.specs.Lines.{line, box_line, number_text}
use Rattle.label.specs.Label.{label_of}
use Rattle.label.specs.Put.{front_text, front_after, localities, tail_in, lead_in, line_in, box_in, pair_in, place_in, head_in, premises_in, localities_in, places_in}
use Rattle.label.specs.Rows.{no_text, no_front, shape_in, lines_for, front_for}
use Rattle.label.specs.Spans.{text_in2, elements_in}
use Rattle.label.proofs.Places.{po_box, line-some, box-some, pair-bytes, place-some, lead-some, three-bytes, open-bytes, locality-bytes, place-bytes}
use Rattle.label.proofs.Walk.{Made}
use Rattle.label.proofs.Whole.{label-bytes}

module _ (a b : List ℕ) where
  -- a line of a text that is there, a PO box's line, and two texts with a space between
  abbrev pub line_pieces : Span → List (List ℕ)
  line_pieces s = text_in2 a b s ∷ (10 ∷ []) ∷ []

  pub line_made : (s : Span) → (length (text_in2 a b s) ≡ 0 → ⊥) → Made (line_pieces s) (line_in a b s)
  line_made s some = record { is = line-some (text_in2 a b s) some }

  abbrev pub box_pieces : Span → List (List ℕ)
  box_pieces s = po_box ∷ text_in2 a b s ∷ (10 ∷ []) ∷ []

  pub box-made : (s : Span) → (length (text_in2 a b s) ≡ 0 → ⊥) → Made (box_pieces s) (box_in a b s)
  box-made s some = record { is = box-some (text_in2 a b s) some }

  abbrev pub pair_pieces : Span → Span → List (List ℕ)
  pair_pieces s t = text_in2 a b s ∷ (32 ∷ []) ∷ text_in2 a b t ∷ (10 ∷ []) ∷ []

  pub pair_made : (s t : Span) → Made (pair_pieces s t) (pair_in a b s t)
  pair_made s t = record { is = pair-bytes (text_in2 a b s) (text_in2 a b t) }

  -- a front, and a front with a space after it
  abbrev pub front_pieces : Front → List (List ℕ)
  front_pieces f = number_text f.number ∷ text_in2 a b f.text ∷ tail_in a b f.beside ∷ []

  pub front-made : (f : Front) → Made (front_pieces f) (front_text a b f)
  front-made f = record { is = refl }

  abbrev pub lead_pieces : Front → List (List ℕ)
  lead_pieces f = front_text a b f ∷ (32 ∷ []) ∷ []

  pub lead-made : (f : Front) → f.pending ≡ true → (length (front_text a b f) ≡ 0 → ⊥) → Made (lead_pieces f) (lead_in a b f)
  lead-made f e some = rw e (record { is = lead-some (front_text a b f) some })

  -- a place whose name is there
  abbrev pub place_pieces : Front → Span → Span → List (List ℕ)
  place_pieces f name tail = lead_in a b f ∷ text_in2 a b name ∷ tail_in a b tail ∷ (10 ∷ []) ∷ []

  pub place-made : (f : Front) (name tail : Span) → (length (text_in2 a b name) ≡ 0 → ⊥)
      → Made (place_pieces f name tail) (place_in a b f name tail)
  place-made f name tail some =
      record { is = place-some f.pending (front_text a b f) (text_in2 a b name) (text_in2 a b tail) some }

  -- organisation, department and PO box
  abbrev pub head_pieces : Spans → List (List ℕ)
  head_pieces e = line_in a b e.organisation ∷ line_in a b e.department ∷ box_in a b e.po_box ∷ []

  pub head-made : (e : Spans) → Made (head_pieces e) (head_in a b e)
  unfolding elements_in
  head-made e =
      record {
        is =
            three-bytes (line (text_in2 a b e.organisation)) (line (text_in2 a b e.department))
            (box_line (text_in2 a b e.po_box));
      }

  -- the premises lines, with nothing before the first
  abbrev pub premises_pieces : Front → Lines → List (List ℕ)
  premises_pieces none l = place_in a b none l.upper l.beside ∷ line_in a b l.lower ∷ []

  pub premises-made : {none : Front} (l : Lines) → none ≡ no_front → Made (premises_pieces none l) (premises_in a b l)
  premises-made l e =
      rw e
      (record {
        is =
            open-bytes (text_in2 a b l.beside) (line (text_in2 a b l.lower)) false (front_text a b no_front)
            (text_in2 a b l.upper);
      })

  -- the localities behind a front: after a line it is pending no more
  abbrev pub localities_pieces : Span → (f g h : Front) → Spans → List (List ℕ)
  localities_pieces none f g h e =
      place_in a b f e.double_locality none ∷ place_in a b g e.dependent_locality none
      ∷ place_in a b h e.town none ∷ []

  pub localities-made : {none : Span} {g h : Front} (f : Front) (e : Spans) → none ≡ no_text
      → g ≡ front_after f (text_in2 a b e.double_locality) → h ≡ front_after g (text_in2 a b e.dependent_locality)
      → Made (localities_pieces none f g h e) (localities_in a b f e)
  unfolding elements_in
  localities-made f e is_none is-g is-h =
      rw (is-h, is-g, is_none)
      (record {
        is =
            locality-bytes f.pending (front_text a b f) (text_in2 a b e.double_locality)
            (text_in2 a b e.dependent_locality) (text_in2 a b e.town);
      })

  -- all places
  abbrev pub places_pieces : (f g h : Front) → Spans → List (List ℕ)
  places_pieces f g h e =
      place_in a b f e.dependent e.dependent_descriptor ∷ place_in a b g e.thoroughfare e.descriptor
      ∷ localities_in a b h e ∷ []

  pub places-made : {g h : Front} (f : Front) (e : Spans) → g ≡ front_after f (text_in2 a b e.dependent)
      → h ≡ front_after g (text_in2 a b e.thoroughfare) → Made (places_pieces f g h e) (places_in a b f e)
  unfolding elements_in
  places-made f e is-g is-h =
      rw (is-h, is-g)
      (record {
        is =
            place-bytes f.pending (front_text a b f) (text_in2 a b e.dependent)
            (text_in2 a b e.dependent_descriptor) (text_in2 a b e.thoroughfare) (text_in2 a b e.descriptor)
            (localities (elements_in a b e));
      })

  -- the whole label
  abbrev pub label_pieces : Lines → Front → Spans → List (List ℕ)
  label_pieces l f e = head_in a b e ∷ premises_in a b l ∷ places_in a b f e ∷ pair_in a b e.outward e.inward ∷ []

  pub label-made : {sh : Shape} {l : Lines} {f : Front} (e : Spans) → sh ≡ shape_in a b e → l ≡ lines_for sh e
      → f ≡ front_for sh e → Made (label_pieces l f e) (label_of (elements_in a b e))
  label-made e is-shape is-lines is_front = record { is = label-bytes a b e _ _ _ is-shape is-lines is_front }
