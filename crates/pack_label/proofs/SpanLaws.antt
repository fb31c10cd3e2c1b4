-- Laws of the spans of a point.
-- Assumes nothing.
use Prim.Native.Nat.{ℕ, ◌+◌}
use mathlib.Core.Path.{◌≡◌, sym, ◌∙◌}
use mathlib.Core.List.{List, []}
use native.Mathlib.Omega.{arith}
use borrow.Author.Tests.{eq-eqb, ne_eqb}
use lib.ListN.{get_or}
use Rattle.field.specs.Text.{part}
use Rattle.pack.specs.Names.{inward_at, postcode_width, absent}
use Rattle.pack.specs.Opening.{row_area, text_place, offset_of_point}
use Rattle.pack.specs.Points.{offset_text}

-- the text of a row that an offset gives, where its parts are read one after the other
pub offset-there : (pack rows : List ℕ) (rest i n o p b : ℕ) → rows ≡ row_area pack → o ≡ offset_of_point pack rest i
    → (o ≡ absent → ⊥)
    → p ≡ text_place rows n (o + 1)
    → b ≡ get_or rows p 0
    → part rows (p + 1) (p + 1 + b) ≡ offset_text pack rest i n
offset-there pack rows rest i n o p b is-area is-offset there is-place is_byte_lem =
    let other = rw is-offset at there in
    rw (is_byte_lem, is-place, is-offset, is-area) (simp (ne_eqb (offset_of_point pack rest i) absent other))

pub offset-absent : (pack : List ℕ) (rest i n o : ℕ) → o ≡ offset_of_point pack rest i → o ≡ absent → [] ≡ offset_text pack rest i n
offset-absent pack rest i n o is-offset none = simp (eq-eqb (offset_of_point pack rest i) absent (sym is-offset ∙ none))

-- the three bytes behind the outward code
pub inward-bytes : (pack : List ℕ) (at : ℕ)
    → part pack (at + inward_at) (at + inward_at + 3) ≡ part pack (at + inward_at) (at + postcode_width)
inward-bytes pack at = rw (let end : at + inward_at + 3 ≡ at + postcode_width = omega arith in end)
