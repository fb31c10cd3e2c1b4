-- A row of an accepted file, and what its fields say as spans.
-- Assumes nothing.
use Rattle.std.specs.Prelude.{ℕ, ◌≤◌, ◌≡◌, true, List, [], length, drop, get_or}
use Rattle.field.specs.Digits.{value}
use Rattle.label.specs.Spans.{text_in2}
use Rattle.csv_paf.specs.File.{fields_of, row_fault, row_fits}
use Rattle.csv_paf.specs.Ask.{text_at}
use Rattle.csv_read.specs.Cut.{field_start}
use Rattle.csv_spans.specs.declared.fields.Places.{Places}
use Rattle.csv_spans.specs.declared.fields.Premises.{Premises}

-- a row begins at a place, and is refused neither with 14 nor with 15
pub record GoodRow (csv : List ℕ) (at : ℕ) : Type 0 where
  pub within : at ≤ length csv
  pub fault : row_fault (drop at csv) ≡ 0
  pub fits : row_fits (drop at csv) ≡ true

-- the fields from post town to dependent thoroughfare
pub record PlacesSay (csv : List ℕ) (at : ℕ) (p : Places) : Type 0 where
  pub town : text_in2 csv csv p.town ≡ text_at (fields_of (drop at csv)) 1
  pub dependent_locality : text_in2 csv csv p.dependent_locality ≡ text_at (fields_of (drop at csv)) 2
  pub double_locality : text_in2 csv csv p.double_locality ≡ text_at (fields_of (drop at csv)) 3
  pub thoroughfare : text_in2 csv csv p.thoroughfare ≡ text_at (fields_of (drop at csv)) 4
  pub dependent : text_in2 csv csv p.dependent ≡ text_at (fields_of (drop at csv)) 5
  pub next : p.next ≡ field_start csv at 6

-- those from building number to organisation
pub record PremisesSay (csv : List ℕ) (at : ℕ) (p : Premises) : Type 0 where
  pub number : p.number ≡ value (get_or (fields_of (drop at csv)) 6 [])
  pub building : text_in2 csv csv p.building ≡ text_at (fields_of (drop at csv)) 7
  pub sub_building : text_in2 csv csv p.sub_building ≡ text_at (fields_of (drop at csv)) 8
  pub box : text_in2 csv csv p.po_box ≡ text_at (fields_of (drop at csv)) 9
  pub department : text_in2 csv csv p.department ≡ text_at (fields_of (drop at csv)) 10
  pub organisation : text_in2 csv csv p.organisation ≡ text_at (fields_of (drop at csv)) 11
