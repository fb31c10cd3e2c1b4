-- Of which pieces the parts of a row are made, as the code writes them.
-- Assumes nothing.
use Prim.Native.Nat.{ℕ}
use mathlib.Core.Path.{◌≡◌, refl, sym, ap, ◌∙◌}
use mathlib.Core.List.{List, [], ◌∷◌, ◌++◌, append_assoc}
use Rattle.label.specs.declared.Span.{Span}
use Rattle.label.specs.declared.Spans.{Spans}
use Rattle.label.specs.Lines.{street, number_text}
use Rattle.label.specs.Put.{tail_text, tail_in}
use Rattle.label.specs.Spans.{text_in2, elements_in}
use Rattle.label.proofs.Places.{street-tail}
use Rattle.label.proofs.Walk.{Made}
use Rattle.csv_paf.specs.Row.{row_fields, row_text}
use Rattle.csv_write.specs.declared.Ending.{Ending}
use Rattle.csv_write.specs.Pieces.{number_field, ending_text, field_in, street_in, postcode_in, places_in, premises_in, row_in}

street-bytes : (name d : List ℕ) → name ++ (tail_text d ++ (44 ∷ [])) ≡ street name d ++ (44 ∷ [])
street-bytes name d = sym (append_assoc name (tail_text d) (44 ∷ [])) ∙ ap (◌++ (44 ∷ [])) (street-tail name d)

abbrev pub number_pieces : ℕ → List (List ℕ)
number_pieces n = number_text n ∷ (44 ∷ []) ∷ []

pub number-made : (n : ℕ) → Made (number_pieces n) (number_field n)
number-made n = record { is = refl }

module _ (a b : List ℕ) where
  abbrev pub field_pieces : Span → List (List ℕ)
  field_pieces s = text_in2 a b s ∷ (44 ∷ []) ∷ []

  pub field-made : (s : Span) → Made (field_pieces s) (field_in a b s)
  field-made s = record { is = refl }

  abbrev pub street_pieces : (name descriptor : Span) → List (List ℕ)
  street_pieces name descriptor = text_in2 a b name ∷ tail_in a b descriptor ∷ (44 ∷ []) ∷ []

  pub street-made : (name descriptor : Span) → Made (street_pieces name descriptor) (street_in a b name descriptor)
  street-made name descriptor = record { is = street-bytes (text_in2 a b name) (text_in2 a b descriptor) }

  abbrev pub postcode_pieces : (outward inward : Span) → List (List ℕ)
  postcode_pieces outward inward = text_in2 a b outward ∷ (32 ∷ []) ∷ field_in a b inward ∷ []

  pub postcode-made : (outward inward : Span) → Made (postcode_pieces outward inward) (postcode_in a b outward inward)
  postcode-made outward inward =
      record { is = sym (append_assoc (text_in2 a b outward) (32 ∷ text_in2 a b inward) (44 ∷ [])) }

  abbrev pub places_pieces : Spans → List (List ℕ)
  places_pieces e =
      postcode_in a b e.outward e.inward
      ∷ field_in a b e.town
      ∷ field_in a b e.dependent_locality
      ∷ field_in a b e.double_locality
      ∷ street_in a b e.thoroughfare e.descriptor
      ∷ street_in a b e.dependent e.dependent_descriptor
      ∷ []

  pub places-made : (e : Spans) → Made (places_pieces e) (places_in a b e)
  places-made e = record { is = refl }

  abbrev pub premises_pieces : Spans → List (List ℕ)
  premises_pieces e =
      number_field e.number
      ∷ field_in a b e.building
      ∷ field_in a b e.sub_building
      ∷ field_in a b e.po_box
      ∷ field_in a b e.department
      ∷ field_in a b e.organisation
      ∷ []

  pub premises-made : (e : Spans) → Made (premises_pieces e) (premises_in a b e)
  premises-made e = record { is = refl }

  abbrev pub row_pieces : Spans → Ending → List (List ℕ)
  row_pieces e x = places_in a b e ∷ premises_in a b e ∷ ending_text x ∷ []

  pub row_made : (e : Spans) (x : Ending) → Made (row_pieces e x) (row_in a b e x)
  unfolding row_text row_fields elements_in
  row_made e x = record { is = simp append_assoc }
