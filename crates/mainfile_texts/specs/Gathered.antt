-- The texts of a delivery point of a set, gathered in one buffer, each at a place of its own: a label is printed from there.
-- Assumes nothing.
use Rattle.std.specs.Prelude.{ℕ, ◌+◌, ◌≤◌, ◌≡◌, true, List, length, get_or}
use Rattle.field.specs.Text.{part, text_in}
use Rattle.source.specs.Resolve.{name_of, department_of}
use Rattle.source.specs.declared.DeliveryPoint.{DeliveryPoint}
use Rattle.source.specs.Delivery.{organisation_in}
use Rattle.label.specs.declared.Span.{Span}
use Rattle.label.specs.declared.Spans.{Spans}
use Rattle.source_spans.specs.Spans.{row_text}
use Rattle.mainfile.specs.Rows.{shelf_of}

-- ---- places in the buffer: behind each other, as wide as their fields

abbrev pub organisation_place : ℕ
organisation_place = 0

abbrev pub department_place : ℕ
department_place = 60

abbrev pub box_place : ℕ
box_place = 120

abbrev pub outward_place : ℕ
outward_place = 126

abbrev pub inward_place : ℕ
inward_place = 130

-- the texts of rows stand behind its own
abbrev pub row_place : ℕ
row_place = 133

abbrev pub sub_building_place : ℕ
sub_building_place = 133

abbrev pub building_place : ℕ
building_place = 163

abbrev pub dependent_place : ℕ
dependent_place = 213

abbrev pub dependent_descriptor_place : ℕ
dependent_descriptor_place = 273

abbrev pub thoroughfare_place : ℕ
thoroughfare_place = 293

abbrev pub descriptor_place : ℕ
descriptor_place = 353

abbrev pub double_locality_place : ℕ
double_locality_place = 373

abbrev pub dependent_locality_place : ℕ
dependent_locality_place = 408

abbrev pub town_place : ℕ
town_place = 443

abbrev pub texts_end : ℕ
texts_end = 473

-- ---- what is written

-- a text of at most so many bytes stands at a place; what is before it is as it was
pub record Kept (text entry : List ℕ) (at width r : ℕ) (exit : List ℕ) : Type 0 where
  pub small : r ≤ width
  pub long : length exit ≡ length entry
  pub here : part exit at (at + r) ≡ text
  pub before : (x y : ℕ) → y ≤ at → part exit x y ≡ part entry x y

-- what stands at a place, and ends by another
pub record Stood (texts : List ℕ) (at r to : ℕ) (text : List ℕ) : Type 0 where
  pub within : at + r ≤ to
  pub is : part texts at (at + r) ≡ text

-- the delivery point's own texts, by their lengths
pub record OwnTexts (own others : List ℕ) (p : DeliveryPoint) (texts sizes : List ℕ) : Type 0 where
  pub organisation : Stood texts organisation_place (get_or sizes 0 0) row_place (name_of (organisation_in others p))
  pub department : Stood texts department_place (get_or sizes 1 0) row_place (department_of (organisation_in others p))
  pub box : Stood texts box_place (get_or sizes 2 0) row_place (text_in own p.po_box (p.po_box + 6))
  pub outward : Stood texts outward_place (get_or sizes 3 0) row_place (text_in own p.postcode (p.postcode + 4))
  pub inward : Stood texts inward_place (get_or sizes 4 0) row_place (part own (p.postcode + 4) (p.postcode + 7))

-- the texts of its rows: premises, streets, localities
pub record PremisesTexts (buildings sub_buildings rows texts sizes : List ℕ) : Type 0 where
  pub sub_building :
      Stood texts sub_building_place (get_or sizes 0 0) dependent_place (row_text (shelf_of 5) sub_buildings (get_or rows 6 0) 5 0)
  pub building :
      Stood texts building_place (get_or sizes 1 0) dependent_place (row_text (shelf_of 4) buildings (get_or rows 5 0) 4 0)

pub record StreetTexts (thoroughfares descriptors rows texts sizes : List ℕ) : Type 0 where
  pub dependent :
      Stood texts dependent_place (get_or sizes 0 0) double_locality_place
      (row_text (shelf_of 2) thoroughfares (get_or rows 3 0) 2 0)
  pub dependent_descriptor :
      Stood texts dependent_descriptor_place (get_or sizes 1 0) double_locality_place
      (row_text (shelf_of 3) descriptors (get_or rows 4 0) 3 0)
  pub thoroughfare :
      Stood texts thoroughfare_place (get_or sizes 2 0) double_locality_place
      (row_text (shelf_of 2) thoroughfares (get_or rows 1 0) 2 0)
  pub descriptor :
      Stood texts descriptor_place (get_or sizes 3 0) double_locality_place
      (row_text (shelf_of 3) descriptors (get_or rows 2 0) 3 0)

pub record LocalityTexts (localities rows texts sizes : List ℕ) : Type 0 where
  pub double_locality :
      Stood texts double_locality_place (get_or sizes 0 0) texts_end (row_text (shelf_of 1) localities (get_or rows 0 0) 1 2)
  pub dependent_locality :
      Stood texts dependent_locality_place (get_or sizes 1 0) texts_end (row_text (shelf_of 1) localities (get_or rows 0 0) 1 1)
  pub town : Stood texts town_place (get_or sizes 2 0) texts_end (row_text (shelf_of 1) localities (get_or rows 0 0) 1 0)

-- the buffer is as long as it was, and as it was up to a place
pub record Same (to : ℕ) (entry exit : List ℕ) : Type 0 where
  pub long : length exit ≡ length entry
  pub before : (x y : ℕ) → y ≤ to → part exit x y ≡ part entry x y

-- ---- where a label finds them

abbrev pub span_at : (at size : ℕ) → Span
span_at at size = record { first = true; at = at; len = size }

abbrev pub spans_from : (own premises streets localities : List ℕ) → DeliveryPoint → Spans
spans_from own premises streets localities p =
    record {
      organisation = span_at organisation_place (get_or own 0 0);
      department = span_at department_place (get_or own 1 0);
      po_box = span_at box_place (get_or own 2 0);
      sub_building = span_at sub_building_place (get_or premises 0 0);
      building = span_at building_place (get_or premises 1 0);
      number = p.number;
      concatenation = p.concatenation;
      dependent = span_at dependent_place (get_or streets 0 0);
      dependent_descriptor = span_at dependent_descriptor_place (get_or streets 1 0);
      thoroughfare = span_at thoroughfare_place (get_or streets 2 0);
      descriptor = span_at descriptor_place (get_or streets 3 0);
      double_locality = span_at double_locality_place (get_or localities 0 0);
      dependent_locality = span_at dependent_locality_place (get_or localities 1 0);
      town = span_at town_place (get_or localities 2 0);
      outward = span_at outward_place (get_or own 3 0);
      inward = span_at inward_place (get_or own 4 0);
    }
