-- How many bytes a row has, and that few are enough.
-- Assumes nothing.
use Prim.Native.Nat.{ℕ, ◌+◌, ◌≤◌}
use mathlib.Core.Path.{◌≡◌, sym, ap, ◌∙◌}
use mathlib.Core.Bool.{Bool, true}
use mathlib.Core.List.{List}
use native.Mathlib.Omega.{arith}
use lib.ListN.{length, length-append}
use Rattle.source.specs.Address.{Elements}
use Rattle.label.specs.declared.Spans.{Spans}
use Rattle.label.specs.Lines.{street, number_text}
use Rattle.label.specs.Put.{tail_text}
use Rattle.label.specs.Spans.{text_in2, elements_in}
use Rattle.label.specs.Widths.{Fits}
use Rattle.label.proofs.Texts.{text-short}
use Rattle.label.proofs.Places.{street-tail}
use Rattle.label.proofs.Bounds.{street-length, number-length, spanned}
use Rattle.csv_paf.specs.Row.{row_fields, row_text, carried}
use Rattle.csv_write.specs.declared.Ending.{Ending}
use Rattle.csv_write.specs.Ending.{suffix_of}
use Rattle.csv_write.specs.Pieces.{places_in, premises_in, row_in}
use Rattle.csv_write.proofs.Plain.{streets-fit}

-- a name and what stands beside it
pub street-size : (name d : List ℕ) → length name + length (tail_text d) ≡ length (street name d)
street-size name d = sym (length-append name (tail_text d)) ∙ ap length (street-tail name d)

-- the fields of a row by their parts
module _ (a b : List ℕ) (e : Spans) where
  pub places-size : length (places_in a b e)
      ≡ length (text_in2 a b e.outward) + length (text_in2 a b e.inward) + length (text_in2 a b e.town)
      + length (text_in2 a b e.dependent_locality) + length (text_in2 a b e.double_locality)
      + length (street (text_in2 a b e.thoroughfare) (text_in2 a b e.descriptor))
      + length (street (text_in2 a b e.dependent) (text_in2 a b e.dependent_descriptor)) + 7
  places-size = simp length-append (omega arith)

  pub premises-size : length (premises_in a b e)
      ≡ length (number_text e.number) + length (text_in2 a b e.building) + length (text_in2 a b e.sub_building)
      + length (text_in2 a b e.po_box) + length (text_in2 a b e.department)
      + length (text_in2 a b e.organisation) + 6
  premises-size = simp length-append (omega arith)

-- the whole row: fifteen commas, a space, type, indicator and the end
module _ (type : ℕ) (indicator : Bool) (suffix : List ℕ) (e : Elements) where
  pub row-size : length (row_text type indicator suffix e)
      ≡ length e.outward + length e.inward + length e.town + length e.dependent_locality
      + length e.double_locality + length (street e.thoroughfare e.descriptor)
      + length (street e.dependent e.dependent_descriptor) + length (number_text e.number)
      + length e.building + length e.sub_building + length e.box + length e.department
      + length e.organisation + length suffix + 20
  unfolding row_text row_fields
  row-size = simp length-append (omega arith)

  -- "At most 499 bytes"
  pub row-at-most-499 : Fits e → carried e ≡ true → length suffix ≤ 2
      → length (row_text type indicator suffix e) ≤ 499
  row-at-most-499 fits is short =
      let streets = streets-fit e is in
      omega (arith, row-size, number-length e.number, streets.0, streets.1)

-- of any spans: all their texts, the number, spaces, commas and the ending
pub at-most-spans : (a b : List ℕ) (e : Spans) (x : Ending) → length (row_in a b e x) ≤ spanned e + 28
unfolding elements_in
at-most-spans a b e x =
    let text = text_in2 a b in
    omega (
      arith,
      row-size x.kind x.indicator (suffix_of x) (elements_in a b e),
      number-length e.number,
      street-length (text e.thoroughfare) (text e.descriptor),
      street-length (text e.dependent) (text e.dependent_descriptor),
      text-short a b e.organisation,
      text-short a b e.department,
      text-short a b e.po_box,
      text-short a b e.sub_building,
      text-short a b e.building,
      text-short a b e.dependent,
      text-short a b e.dependent_descriptor,
      text-short a b e.thoroughfare,
      text-short a b e.descriptor,
      text-short a b e.double_locality,
      text-short a b e.dependent_locality,
      text-short a b e.town,
      text-short a b e.outward,
      text-short a b e.inward,
    )
