-- An example of what a row has no field for: number 12 and sub building A of a view whose concatenation is Y, computed.
-- Assumes nothing.
use Prim.Native.Nat.{ℕ}
use mathlib.Core.Path.{◌≡◌, refl}
use mathlib.Core.Bool.{true, false}
use mathlib.Core.List.{List, [], ◌∷◌}
use native.Mathlib.Omega.{arith}
use lib.ListN.{replicate}
use Rattle.field.specs.Digits.{value, digit_value}
use Rattle.field.specs.Text.{text_fault, filled_fault, numeric_like}
use Rattle.field_outward.specs.Outward.{outward_fault, class, allowed}
use Rattle.field_outward.specs.Inward.{inward_fault, inward_letter, suffix_fault}
use Rattle.refusal.specs.Outcome.{said}
use Rattle.source.specs.Address.{Elements}
use Rattle.label.specs.Lines.{number_text, lines_of}
use Rattle.label.specs.Label.{label_of, room_outcome}
use Rattle.csv_paf.specs.Row.{row_fields, row_text, carried}
use Rattle.csv_paf.specs.File.{rows_of, is_postcode, row_fault, row_fits, csv_judged}
use Rattle.csv_paf.specs.Ask.{row_elements, forbidden_in, row_resolved, row_label, csv_label}
use Rattle.pack.specs.Opening.{text_good}
use Rattle.csv_back.specs.Back.{lost, Entry, row_in, Writable}
use Rattle.std.specs.Prelude.{Ok}

abbrev elements-1 : Elements
elements-1 =
    record {
      organisation = [];
      department = [];
      box = [];
      sub_building = 65 ∷ [];
      building = [];
      number = 12;
      concatenation = true;
      dependent = [];
      dependent_descriptor = [];
      thoroughfare = 81 ∷ 85 ∷ 65 ∷ 82 ∷ 82 ∷ 89 ∷ [];
      descriptor = 76 ∷ 65 ∷ 78 ∷ 69 ∷ [];
      double_locality = [];
      dependent_locality = [];
      town = 72 ∷ 65 ∷ 82 ∷ 84 ∷ 87 ∷ 69 ∷ 76 ∷ 76 ∷ 32 ∷ 66 ∷ 65 ∷ 89 ∷ [];
      outward = 65 ∷ 66 ∷ 49 ∷ [];
      inward = 57 ∷ 90 ∷ 90 ∷ [];
    }

abbrev entry-1 : Entry
entry-1 = record { type = 83; indicator = false; suffix = 49 ∷ 65 ∷ []; printed = elements-1 }

-- `AB1 9ZZ,HARTWELL BAY,,,QUARRY LANE,,12,,A,,,,,S, ,1A` and CR LF
abbrev row : List ℕ
row =
    65 ∷ 66 ∷ 49 ∷ 32 ∷ 57 ∷ 90 ∷ 90 ∷ 44 ∷ 72 ∷ 65 ∷ 82 ∷ 84 ∷ 87 ∷ 69 ∷ 76 ∷ 76 ∷ 32 ∷ 66 ∷ 65 ∷ 89 ∷ 44 ∷ 44 ∷
    44 ∷ 81 ∷ 85 ∷ 65 ∷ 82 ∷ 82 ∷ 89 ∷ 32 ∷ 76 ∷ 65 ∷ 78 ∷ 69 ∷ 44 ∷ 44 ∷ 49 ∷ 50 ∷ 44 ∷ 44 ∷ 65 ∷ 44 ∷ 44 ∷ 44 ∷
    44 ∷ 44 ∷ 83 ∷ 44 ∷ 32 ∷ 44 ∷ 49 ∷ 65 ∷ 13 ∷ 10 ∷ []

pub row-1 : row_in entry-1 ≡ row
unfolding row_text row_fields number_text
row-1 = refl

-- the laws hold of it
pub writable-1 : Writable entry-1
unfolding carried text_good outward_fault class allowed inward_fault inward_letter suffix_fault
writable-1 =
    record {
      sound =
          record {
            type = refl;
            suffix = refl;
            texts =
                record {
                  town = refl;
                  dependent_locality = refl;
                  double_locality = refl;
                  thoroughfare = refl;
                  descriptor = refl;
                  dependent = refl;
                  dependent_descriptor = refl;
                  building = refl;
                  sub_building = refl;
                  box = refl;
                  department = refl;
                  organisation = refl;
                  number = omega arith;
                  code = 65 ∷ 66 ∷ 49 ∷ 32 ∷ [];
                  outward = refl;
                  outward_good = refl;
                  inward = refl;
                  double = refl;
                  named = λ is. refl;
                  mix = refl;
                };
          };
      not_refused = refl;
    }

pub lost-1 : lost elements-1 ≡ true
unfolding lost
lost-1 = refl

-- the view's label begins `12A QUARRY LANE`
abbrev of_view : List ℕ
of_view =
    49 ∷ 50 ∷ 65 ∷ 32 ∷ 81 ∷ 85 ∷ 65 ∷ 82 ∷ 82 ∷ 89 ∷ 32 ∷ 76 ∷ 65 ∷ 78 ∷ 69 ∷ 10 ∷ 72 ∷ 65 ∷ 82 ∷ 84 ∷ 87 ∷ 69 ∷
    76 ∷ 76 ∷ 32 ∷ 66 ∷ 65 ∷ 89 ∷ 10 ∷ 65 ∷ 66 ∷ 49 ∷ 32 ∷ 57 ∷ 90 ∷ 90 ∷ 10 ∷ []

pub view-label-1 : label_of elements-1 ≡ of_view
unfolding label_of lines_of number_text
view-label-1 = refl

-- the row's has `A`, and then `12 QUARRY LANE`
abbrev of_row : List ℕ
of_row =
    65 ∷ 10 ∷ 49 ∷ 50 ∷ 32 ∷ 81 ∷ 85 ∷ 65 ∷ 82 ∷ 82 ∷ 89 ∷ 32 ∷ 76 ∷ 65 ∷ 78 ∷ 69 ∷ 10 ∷ 72 ∷ 65 ∷ 82 ∷ 84 ∷ 87 ∷
    69 ∷ 76 ∷ 76 ∷ 32 ∷ 66 ∷ 65 ∷ 89 ∷ 10 ∷ 65 ∷ 66 ∷ 49 ∷ 32 ∷ 57 ∷ 90 ∷ 90 ∷ 10 ∷ []

pub row-label-1 : csv_label row 1 of_row ≡ room_outcome of_row of_row
unfolding csv_label csv_judged row_label rows_of row_fault row_fits is_postcode text_fault filled_fault outward_fault class allowed inward_fault inward_letter suffix_fault row_resolved row_elements forbidden_in value digit_value numeric_like number_text lines_of label_of room_outcome
row-label-1 = refl

-- the same into a buffer of 38 bytes, which it fills
pub row-label-1-filled : csv_label row 1 (replicate 38 0) ≡ said (Ok 38) of_row
unfolding csv_label csv_judged row_label rows_of row_fault row_fits is_postcode text_fault filled_fault outward_fault class allowed inward_fault inward_letter suffix_fault row_resolved row_elements forbidden_in value digit_value numeric_like number_text lines_of label_of room_outcome
row-label-1-filled = refl
