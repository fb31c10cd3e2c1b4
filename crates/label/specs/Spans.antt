-- Where the elements of a label stand: each text as a part of one of two slices, never copied before it is printed.
-- Assumes nothing.
use Rattle.std.specs.Prelude.{ℕ, ◌+◌, cond, List}
use Rattle.field.specs.Text.{part}
use Rattle.source.specs.Address.{Elements}
use Rattle.label.specs.declared.Span.{Span}
use Rattle.label.specs.declared.Spans.{Spans}

-- a span's text: so many bytes of the first slice or of the second
abbrev pub text_in2 : List ℕ → List ℕ → Span → List ℕ
text_in2 a b s = part (cond s.first a b) s.at (s.at + s.len)

unfoldable pub elements_in : List ℕ → List ℕ → Spans → Elements
elements_in a b e =
    record {
      organisation = text_in2 a b e.organisation;
      department = text_in2 a b e.department;
      box = text_in2 a b e.po_box;
      sub_building = text_in2 a b e.sub_building;
      building = text_in2 a b e.building;
      number = e.number;
      concatenation = e.concatenation;
      dependent = text_in2 a b e.dependent;
      dependent_descriptor = text_in2 a b e.dependent_descriptor;
      thoroughfare = text_in2 a b e.thoroughfare;
      descriptor = text_in2 a b e.descriptor;
      double_locality = text_in2 a b e.double_locality;
      dependent_locality = text_in2 a b e.dependent_locality;
      town = text_in2 a b e.town;
      outward = text_in2 a b e.outward;
      inward = text_in2 a b e.inward;
    }
