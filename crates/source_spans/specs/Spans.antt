-- What a delivery point is printed from: the texts of its rows on a shelf, and what stands in the slice that holds it. Over any
-- bytes; that these are the elements of its address is a law about what says an address.
-- Assumes nothing.
use Rattle.std.specs.Prelude.{ℕ, ◌+◌, ◌≡◌, Bool, cond, List, [], eqb, get_or}
use Rattle.field.specs.Text.{part, text_in}
use Rattle.source.specs.Address.{Elements}
use Rattle.source.specs.Resolve.{name_of, department_of}
use Rattle.source.specs.declared.DeliveryPoint.{DeliveryPoint}
use Rattle.source.specs.Delivery.{organisation_in}
use Rattle.label.specs.declared.Span.{Span}
use Rattle.label.specs.declared.Spans.{Spans}
use Rattle.label.specs.Spans.{text_in2, elements_in}
use Rattle.shelf.specs.declared.Shelf.{Shelf}
use Rattle.shelf.specs.Shelf.{texts_in, record_of}

-- so many bytes at a place of a row, without padding; none where the row is 0
abbrev pub field_of : Shelf → List ℕ → (row from width : ℕ) → List ℕ
field_of s file row from width = cond (eqb row 0) [] (text_in (record_of s file row) from (from + width))

-- a text of a row of a kind
abbrev pub row_text : Shelf → List ℕ → (row kind which : ℕ) → List ℕ
row_text s file row kind which = cond (eqb row 0) [] (get_or (texts_in s kind (record_of s file row)) which [])

-- by a way from a row, its kind and a number to a text: `own` holds postcode and PO box, `others` the organisation
abbrev pub elements_from : (text : (row kind which : ℕ) → List ℕ) → (own others : List ℕ) → DeliveryPoint
    → (rows : List ℕ) → Elements
elements_from text own others p rows =
    record {
      organisation = name_of (organisation_in others p);
      department = department_of (organisation_in others p);
      box = text_in own p.po_box (p.po_box + 6);
      sub_building = text (get_or rows 6 0) 5 0;
      building = text (get_or rows 5 0) 4 0;
      number = p.number;
      concatenation = p.concatenation;
      dependent = text (get_or rows 3 0) 2 0;
      dependent_descriptor = text (get_or rows 4 0) 3 0;
      thoroughfare = text (get_or rows 1 0) 2 0;
      descriptor = text (get_or rows 2 0) 3 0;
      double_locality = text (get_or rows 0 0) 1 2;
      dependent_locality = text (get_or rows 0 0) 1 1;
      town = text (get_or rows 0 0) 1 0;
      outward = text_in own p.postcode (p.postcode + 4);
      inward = part own (p.postcode + 4) (p.postcode + 7);
    }

-- where all rows stand on one shelf
unfoldable pub elements_by : Shelf → (file own : List ℕ) → DeliveryPoint → (rows : List ℕ) → Elements
elements_by s file own p rows = elements_from (row_text s file) own own p rows

-- ---- what spans say, the rows standing in the first slice and the delivery point in the second

abbrev pub OwnSays : (own : List ℕ) → Span → List ℕ → Type 0
OwnSays own r text = (a : List ℕ) → text_in2 a own r ≡ text

abbrev pub RowSays : (file : List ℕ) → Span → List ℕ → Type 0
RowSays file r text = (b : List ℕ) → text_in2 file b r ≡ text

-- a padded field, where it is asked for
abbrev pub text_if : Bool → List ℕ → (at width : ℕ) → List ℕ
text_if there own at width = cond there (text_in own at (at + width)) []

abbrev pub SpansSay : Shelf → (file own : List ℕ) → DeliveryPoint → (rows : List ℕ) → Spans → Type 0
SpansSay s file own p rows r = elements_in file own r ≡ elements_by s file own p rows
