-- Which row of the table of premises applies, as a value, and where the row's texts stand.
-- Assumes nothing.
use Rattle.std.specs.Prelude.{ℕ, Bool, true, false, cond, ◌&&◌, List, eqb}
use Rattle.field.specs.Text.{numeric_like}
use Rattle.label.specs.declared.Span.{Span}
use Rattle.label.specs.declared.Spans.{Spans}
use Rattle.label.specs.declared.shape.Shape.{Shape}
use Rattle.label.specs.declared.shape.Shape.TheVariants.{Bare, NameLine, NameFront, SubLine, SubFront, BothLine, BothFront, SubLineNameFront, TwoLines}
use Rattle.label.specs.declared.shape.Lines.{Lines}
use Rattle.label.specs.declared.shape.Front.{Front}
use Rattle.label.specs.Lines.{is_empty}
use Rattle.label.specs.Spans.{text_in2}

-- the row, of the sub building, the building name, whether there is no number, and the concatenation: a numeric-like
-- name goes to the front where there is no number
unfoldable pub shape_of : (s b : List ℕ) → Bool → Bool → Shape
shape_of s b z y =
    cond (is_empty s) (cond (is_empty b) Bare (cond (numeric_like b && z) NameFront NameLine))
    (cond (is_empty b) (cond y SubFront SubLine)
    (cond (numeric_like s) (cond (numeric_like b && z) BothFront BothLine)
    (cond (numeric_like b && z) SubLineNameFront TwoLines)))

-- the row of elements in the slices a and b
abbrev pub shape_in : (a b : List ℕ) → Spans → Shape
shape_in a b e = shape_of (text_in2 a b e.sub_building) (text_in2 a b e.building) (eqb e.number 0) e.concatenation

-- the span of no text
abbrev pub no_text : Span
no_text = record { first = true; at = 0; len = 0 }

abbrev pub lines_at : Span → Span → Span → Lines
lines_at u v w = record { upper = u; beside = v; lower = w }

abbrev pub front_at : ℕ → Span → Span → Front
front_at n u v = record { pending = true; number = n; text = u; beside = v }

-- nothing to be written before a line
abbrev pub no_front : Front
no_front = record { pending = false; number = 0; text = no_text; beside = no_text }

-- the premises lines of a row
abbrev pub lines_for : Shape → Spans → Lines
lines_for Bare e = lines_at no_text no_text no_text
lines_for NameLine e = lines_at e.building no_text no_text
lines_for NameFront e = lines_at no_text no_text no_text
lines_for SubLine e = lines_at e.sub_building no_text no_text
lines_for SubFront e = lines_at no_text no_text no_text
lines_for BothLine e = lines_at e.sub_building e.building no_text
lines_for BothFront e = lines_at no_text no_text no_text
lines_for SubLineNameFront e = lines_at e.sub_building no_text no_text
lines_for TwoLines e = lines_at e.sub_building no_text e.building

-- the front of a row
abbrev pub front_for : Shape → Spans → Front
front_for Bare e = front_at e.number no_text no_text
front_for NameLine e = front_at e.number no_text no_text
front_for NameFront e = front_at 0 e.building no_text
front_for SubLine e = front_at e.number no_text no_text
front_for SubFront e = front_at e.number e.sub_building no_text
front_for BothLine e = front_at e.number no_text no_text
front_for BothFront e = front_at 0 e.sub_building e.building
front_for SubLineNameFront e = front_at 0 e.building no_text
front_for TwoLines e = front_at e.number no_text no_text
