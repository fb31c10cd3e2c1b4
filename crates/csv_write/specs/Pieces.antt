-- The parts of a row of CSV PAF, of spans in the slices a and b, as code writes and counts them: each field with the comma
-- behind it.
-- Assumes nothing.
use Rattle.std.specs.Prelude.{ℕ, ◌≤◌, ◌<◌, ◌≡◌, List, [], ◌∷◌, ◌++◌, length}
use Rattle.label.specs.declared.Span.{Span}
use Rattle.label.specs.declared.Spans.{Spans}
use Rattle.label.specs.Lines.{spaced, street, number_text}
use Rattle.label.specs.Spans.{text_in2, elements_in}
use Rattle.csv_paf.specs.Row.{indicator_mark}
use Rattle.csv_write.specs.declared.Ending.{Ending}
use Rattle.csv_write.specs.Ending.{row_by}

abbrev pub number_field : ℕ → List ℕ
number_field n = number_text n ++ (44 ∷ [])

-- the four fields that the texts of a view do not fill, and the end: no UDPRN, type, indicator, suffix
abbrev pub ending_text : Ending → List ℕ
ending_text x =
    44 ∷ x.kind ∷ 44 ∷ indicator_mark x.indicator ∷ 44 ∷ x.digit ∷ x.letter ∷ 13 ∷ 10 ∷ []

module _ (a b : List ℕ) where
  abbrev pub field_in : Span → List ℕ
  field_in s = text_in2 a b s ++ (44 ∷ [])

  abbrev pub street_in : (name descriptor : Span) → List ℕ
  street_in name descriptor = street (text_in2 a b name) (text_in2 a b descriptor) ++ (44 ∷ [])

  abbrev pub postcode_in : (outward inward : Span) → List ℕ
  postcode_in outward inward = spaced (text_in2 a b outward) (text_in2 a b inward) ++ (44 ∷ [])

  -- fields 1 to 6
  abbrev pub places_in : Spans → List ℕ
  places_in e =
      postcode_in e.outward e.inward
      ++ (field_in e.town
      ++ (field_in e.dependent_locality
      ++ (field_in e.double_locality
      ++ (street_in e.thoroughfare e.descriptor ++ street_in e.dependent e.dependent_descriptor))))

  -- fields 7 to 12
  abbrev pub premises_in : Spans → List ℕ
  premises_in e =
      number_field e.number
      ++ (field_in e.building
      ++ (field_in e.sub_building
      ++ (field_in e.po_box ++ (field_in e.department ++ field_in e.organisation))))

  -- the whole row
  abbrev pub row_in : Spans → Ending → List ℕ
  row_in e x = row_by x (elements_in a b e)

  -- so many bytes it has, with any ending
  abbrev pub RowSize : Spans → ℕ → Type 0
  RowSize e n = (x : Ending) → n ≡ length (row_in e x)

  -- what is told of the bytes that it needs of a buffer of so many
  abbrev pub RowNeeds : Spans → (room n : ℕ) → Type 0
  RowNeeds e room n =
      (x : Ending) → (n ≤ room → length (row_in e x) ≤ room) × (room < n → n ≡ length (row_in e x))
