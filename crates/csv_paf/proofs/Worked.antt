-- Document 01's view 1 as a row, read back; refusals 14 and 15 at their fields: computed.
-- Assumes nothing.
use Prim.Native.Nat.{ℕ}
use mathlib.Core.Path.{◌≡◌, refl}
use mathlib.Core.Bool.{true, false}
use mathlib.Core.List.{List, [], ◌∷◌, ◌++◌}
use lib.ListN.{length, replicate}
use Rattle.field_outward.specs.Outward.{outward_fault, class, allowed}
use Rattle.field_outward.specs.Inward.{inward_fault, inward_letter, suffix_fault}
use Rattle.field.specs.Digits.{value, digit_value}
use Rattle.field.specs.Text.{text_fault, filled_fault, numeric_like}
use Rattle.refusal.specs.declared.Reason.TheVariants.{BadRow, Uncarried, NoSuchNumber, Combination, Room}
use Rattle.refusal.specs.Outcome.{said}
use Rattle.source.specs.Address.{Address, Elements, none_needed}
use Rattle.label.specs.Lines.{number_text, lines_of}
use Rattle.label.specs.Label.{label_of, room_outcome}
use Rattle.item.specs.Lines.{decimal}
use Rattle.csv_paf.specs.Row.{row_fields, row_text, row_of, carried}
use Rattle.csv_paf.specs.File.{rows_of, is_postcode, row_fault, row_fits, csv_judged}
use Rattle.csv_paf.specs.Ask.{row_elements, forbidden_in, row_resolved, row_label, csv_label, row_line, row_item, csv_item}
use Rattle.std.specs.Prelude.{Ok}
use Rattle.refusal.specs.Answer.{refusal}

-- `AB1 9ZZ,HARTWELL BAY,,,QUARRY LANE,,,110-114,ATTIC FLAT,,,,,S, ,1A` and CR LF
abbrev row : List ℕ
row =
    65 ∷ 66 ∷ 49 ∷ 32 ∷ 57 ∷ 90 ∷ 90 ∷ 44 ∷ 72 ∷ 65 ∷ 82 ∷ 84 ∷ 87 ∷ 69 ∷ 76 ∷ 76 ∷ 32 ∷ 66 ∷ 65 ∷ 89 ∷ 44 ∷ 44 ∷
    44 ∷ 81 ∷ 85 ∷ 65 ∷ 82 ∷ 82 ∷ 89 ∷ 32 ∷ 76 ∷ 65 ∷ 78 ∷ 69 ∷ 44 ∷ 44 ∷ 44 ∷ 49 ∷ 49 ∷ 48 ∷ 45 ∷ 49 ∷ 49 ∷ 52 ∷
    44 ∷ 65 ∷ 84 ∷ 84 ∷ 73 ∷ 67 ∷ 32 ∷ 70 ∷ 76 ∷ 65 ∷ 84 ∷ 44 ∷ 44 ∷ 44 ∷ 44 ∷ 44 ∷ 83 ∷ 44 ∷ 32 ∷ 44 ∷ 49 ∷ 65 ∷
    13 ∷ 10 ∷ []

-- its label
abbrev label : List ℕ
label =
    65 ∷ 84 ∷ 84 ∷ 73 ∷ 67 ∷ 32 ∷ 70 ∷ 76 ∷ 65 ∷ 84 ∷ 10 ∷ 49 ∷ 49 ∷ 48 ∷ 45 ∷ 49 ∷ 49 ∷ 52 ∷ 32 ∷ 81 ∷ 85 ∷ 65 ∷
    82 ∷ 82 ∷ 89 ∷ 32 ∷ 76 ∷ 65 ∷ 78 ∷ 69 ∷ 10 ∷ 72 ∷ 65 ∷ 82 ∷ 84 ∷ 87 ∷ 69 ∷ 76 ∷ 76 ∷ 32 ∷ 66 ∷ 65 ∷ 89 ∷ 10 ∷
    65 ∷ 66 ∷ 49 ∷ 32 ∷ 57 ∷ 90 ∷ 90 ∷ 10 ∷ []

abbrev elements-1 : Elements
elements-1 =
    record {
      organisation = [];
      department = [];
      box = [];
      sub_building = 65 ∷ 84 ∷ 84 ∷ 73 ∷ 67 ∷ 32 ∷ 70 ∷ 76 ∷ 65 ∷ 84 ∷ [];
      building = 49 ∷ 49 ∷ 48 ∷ 45 ∷ 49 ∷ 49 ∷ 52 ∷ [];
      number = 0;
      concatenation = false;
      dependent = [];
      dependent_descriptor = [];
      thoroughfare = 81 ∷ 85 ∷ 65 ∷ 82 ∷ 82 ∷ 89 ∷ [];
      descriptor = 76 ∷ 65 ∷ 78 ∷ 69 ∷ [];
      double_locality = [];
      dependent_locality = [];
      town = 72 ∷ 65 ∷ 82 ∷ 84 ∷ 87 ∷ 69 ∷ 76 ∷ 76 ∷ 32 ∷ 66 ∷ 65 ∷ 89 ∷ [];
      outward = 65 ∷ 66 ∷ 49 ∷ [];
      inward = 57 ∷ 90 ∷ 90 ∷ [];
    }

abbrev address-1 : Address
address-1 =
    record {
      view = 1;
      letter = 73;
      outward = 65 ∷ 66 ∷ 49 ∷ 32 ∷ [];
      inward = 57 ∷ 90 ∷ 90 ∷ [];
      suffix = 49 ∷ 65 ∷ [];
      postcode_type = 83;
      address_key = 12345678;
      organisation_key = 0;
      locality = 1;
      thoroughfare = 1;
      descriptor = 1;
      dependent = 0;
      dependent_descriptor = 0;
      building = 1;
      sub_building = 1;
      number = 0;
      concatenation = false;
      box = 32 ∷ 32 ∷ 32 ∷ 32 ∷ 32 ∷ 32 ∷ [];
      indicator = false;
      organisation = none_needed;
    }

pub written : row_of address-1 elements-1 ≡ row
unfolding row_text row_fields number_text
written = refl

pub carried-1 : carried elements-1 ≡ true
unfolding carried
carried-1 = refl

pub read_back : csv_judged row ≡ Ok 1
unfolding csv_judged rows_of row_fault row_fits is_postcode text_fault filled_fault outward_fault class allowed inward_fault inward_letter suffix_fault
read_back = refl

pub sixty-eight : length row ≡ 68
sixty-eight = refl

pub label-back : csv_label row 1 [] ≡ room_outcome label []
unfolding csv_label csv_judged row_label rows_of row_fault row_fits is_postcode text_fault filled_fault outward_fault class allowed inward_fault inward_letter suffix_fault row_resolved row_elements forbidden_in value digit_value numeric_like number_text lines_of label_of room_outcome
label-back = refl

-- into a buffer of 54 bytes; the two behind the label stay
pub label-back-roomy : csv_label row 1 (replicate 54 0) ≡ said (Ok 52) (label ++ (0 ∷ 0 ∷ []))
unfolding csv_label csv_judged row_label rows_of row_fault row_fits is_postcode text_fault filled_fault outward_fault class allowed inward_fault inward_letter suffix_fault row_resolved row_elements forbidden_in value digit_value numeric_like number_text lines_of label_of room_outcome
label-back-roomy = refl

-- the buffer is a byte too short
pub label-short : csv_label row 1 (replicate 51 0) ≡ said (refusal 0 (Room 52)) (replicate 51 0)
unfolding csv_label csv_judged row_label rows_of row_fault row_fits is_postcode text_fault filled_fault outward_fault class allowed inward_fault inward_letter suffix_fault row_resolved row_elements forbidden_in value digit_value numeric_like number_text lines_of label_of room_outcome
label-short = refl

-- there is no row 0, and none behind the last
pub row-0 : csv_label row 0 [] ≡ said (refusal 0 NoSuchNumber) []
unfolding csv_label csv_judged row_label rows_of row_fault row_fits is_postcode text_fault filled_fault outward_fault class allowed inward_fault inward_letter suffix_fault row_resolved row_elements forbidden_in value digit_value numeric_like number_text lines_of label_of room_outcome
row-0 = refl

pub row-2 : csv_label row 2 [] ≡ said (refusal 0 NoSuchNumber) []
unfolding csv_label csv_judged row_label rows_of row_fault row_fits is_postcode text_fault filled_fault outward_fault class allowed inward_fault inward_letter suffix_fault row_resolved row_elements forbidden_in value digit_value numeric_like number_text lines_of label_of room_outcome
row-2 = refl

-- its item: the line `row 1`, then the label
pub listed : csv_item row 1 (replicate 58 0) ≡ said (Ok 58) ((114 ∷ 111 ∷ 119 ∷ 32 ∷ 49 ∷ 10 ∷ []) ++ label)
unfolding csv_item row_item row_line decimal csv_label csv_judged row_label rows_of row_fault row_fits is_postcode text_fault filled_fault outward_fault class allowed inward_fault inward_letter suffix_fault row_resolved row_elements forbidden_in value digit_value numeric_like number_text lines_of label_of room_outcome
listed = refl

-- an empty file has no rows
pub empty-file :
    csv_judged
    ([])
    ≡ Ok 0
unfolding csv_judged rows_of row_fault row_fits is_postcode text_fault filled_fault outward_fault class allowed inward_fault inward_letter suffix_fault
empty-file = refl

-- two rows
pub two-rows :
    csv_judged
    (65 ∷ 66 ∷ 49 ∷ 32 ∷ 57 ∷ 90 ∷ 90 ∷ 44 ∷ 72 ∷ 65 ∷ 82 ∷ 84 ∷ 87 ∷ 69 ∷ 76 ∷ 76 ∷ 32 ∷ 66 ∷ 65 ∷ 89 ∷ 44 ∷ 44 ∷
    44 ∷ 81 ∷ 85 ∷ 65 ∷ 82 ∷ 82 ∷ 89 ∷ 32 ∷ 76 ∷ 65 ∷ 78 ∷ 69 ∷ 44 ∷ 44 ∷ 44 ∷ 49 ∷ 49 ∷ 48 ∷ 45 ∷ 49 ∷ 49 ∷ 52 ∷
    44 ∷ 65 ∷ 84 ∷ 84 ∷ 73 ∷ 67 ∷ 32 ∷ 70 ∷ 76 ∷ 65 ∷ 84 ∷ 44 ∷ 44 ∷ 44 ∷ 44 ∷ 44 ∷ 83 ∷ 44 ∷ 32 ∷ 44 ∷ 49 ∷ 65 ∷
    13 ∷ 10 ∷ 65 ∷ 66 ∷ 49 ∷ 32 ∷ 57 ∷ 90 ∷ 90 ∷ 44 ∷ 72 ∷ 65 ∷ 82 ∷ 84 ∷ 87 ∷ 69 ∷ 76 ∷ 76 ∷ 32 ∷ 66 ∷ 65 ∷ 89 ∷
    44 ∷ 44 ∷ 44 ∷ 81 ∷ 85 ∷ 65 ∷ 82 ∷ 82 ∷ 89 ∷ 32 ∷ 76 ∷ 65 ∷ 78 ∷ 69 ∷ 44 ∷ 44 ∷ 44 ∷ 49 ∷ 49 ∷ 48 ∷ 45 ∷ 49 ∷
    49 ∷ 52 ∷ 44 ∷ 65 ∷ 84 ∷ 84 ∷ 73 ∷ 67 ∷ 32 ∷ 70 ∷ 76 ∷ 65 ∷ 84 ∷ 44 ∷ 44 ∷ 44 ∷ 44 ∷ 44 ∷ 83 ∷ 44 ∷ 32 ∷ 44 ∷
    49 ∷ 65 ∷ 13 ∷ 10 ∷ [])
    ≡ Ok 2
unfolding csv_judged rows_of row_fault row_fits is_postcode text_fault filled_fault outward_fault class allowed inward_fault inward_letter suffix_fault
two-rows = refl

-- the last row without its end
pub no_end :
    csv_judged
    (65 ∷ 66 ∷ 49 ∷ 32 ∷ 57 ∷ 90 ∷ 90 ∷ 44 ∷ 72 ∷ 65 ∷ 82 ∷ 84 ∷ 87 ∷ 69 ∷ 76 ∷ 76 ∷ 32 ∷ 66 ∷ 65 ∷ 89 ∷ 44 ∷ 44 ∷
    44 ∷ 81 ∷ 85 ∷ 65 ∷ 82 ∷ 82 ∷ 89 ∷ 32 ∷ 76 ∷ 65 ∷ 78 ∷ 69 ∷ 44 ∷ 44 ∷ 44 ∷ 49 ∷ 49 ∷ 48 ∷ 45 ∷ 49 ∷ 49 ∷ 52 ∷
    44 ∷ 65 ∷ 84 ∷ 84 ∷ 73 ∷ 67 ∷ 32 ∷ 70 ∷ 76 ∷ 65 ∷ 84 ∷ 44 ∷ 44 ∷ 44 ∷ 44 ∷ 44 ∷ 83 ∷ 44 ∷ 32 ∷ 44 ∷ 49 ∷ 65 ∷
    [])
    ≡ refusal 0 (BadRow 1 17)
unfolding csv_judged rows_of row_fault row_fits is_postcode text_fault filled_fault outward_fault class allowed inward_fault inward_letter suffix_fault
no_end = refl

-- a field behind the sixteenth
pub surplus :
    csv_judged
    (65 ∷ 66 ∷ 49 ∷ 32 ∷ 57 ∷ 90 ∷ 90 ∷ 44 ∷ 72 ∷ 65 ∷ 82 ∷ 84 ∷ 87 ∷ 69 ∷ 76 ∷ 76 ∷ 32 ∷ 66 ∷ 65 ∷ 89 ∷ 44 ∷ 44 ∷
    44 ∷ 81 ∷ 85 ∷ 65 ∷ 82 ∷ 82 ∷ 89 ∷ 32 ∷ 76 ∷ 65 ∷ 78 ∷ 69 ∷ 44 ∷ 44 ∷ 44 ∷ 49 ∷ 49 ∷ 48 ∷ 45 ∷ 49 ∷ 49 ∷ 52 ∷
    44 ∷ 65 ∷ 84 ∷ 84 ∷ 73 ∷ 67 ∷ 32 ∷ 70 ∷ 76 ∷ 65 ∷ 84 ∷ 44 ∷ 44 ∷ 44 ∷ 44 ∷ 44 ∷ 83 ∷ 44 ∷ 32 ∷ 44 ∷ 49 ∷ 65 ∷
    44 ∷ 88 ∷ 13 ∷ 10 ∷ [])
    ≡ refusal 0 (BadRow 1 17)
unfolding csv_judged rows_of row_fault row_fits is_postcode text_fault filled_fault outward_fault class allowed inward_fault inward_letter suffix_fault
surplus = refl

-- a lone CR belongs to its field
pub lone-cr :
    csv_judged
    (65 ∷ 66 ∷ 49 ∷ 32 ∷ 57 ∷ 90 ∷ 90 ∷ 44 ∷ 72 ∷ 65 ∷ 82 ∷ 84 ∷ 13 ∷ 87 ∷ 69 ∷ 76 ∷ 76 ∷ 32 ∷ 66 ∷ 65 ∷ 89 ∷ 44 ∷
    44 ∷ 44 ∷ 81 ∷ 85 ∷ 65 ∷ 82 ∷ 82 ∷ 89 ∷ 32 ∷ 76 ∷ 65 ∷ 78 ∷ 69 ∷ 44 ∷ 44 ∷ 44 ∷ 49 ∷ 49 ∷ 48 ∷ 45 ∷ 49 ∷ 49 ∷
    52 ∷ 44 ∷ 65 ∷ 84 ∷ 84 ∷ 73 ∷ 67 ∷ 32 ∷ 70 ∷ 76 ∷ 65 ∷ 84 ∷ 44 ∷ 44 ∷ 44 ∷ 44 ∷ 44 ∷ 83 ∷ 44 ∷ 32 ∷ 44 ∷ 49 ∷
    65 ∷ 13 ∷ 10 ∷ [])
    ≡ refusal 0 (BadRow 1 2)
unfolding csv_judged rows_of row_fault row_fits is_postcode text_fault filled_fault outward_fault class allowed inward_fault inward_letter suffix_fault
lone-cr = refl

-- a row that ends before field 3
pub ends-early :
    csv_judged
    (65 ∷ 66 ∷ 49 ∷ 32 ∷ 57 ∷ 90 ∷ 90 ∷ 44 ∷ 72 ∷ 65 ∷ 82 ∷ 84 ∷ 87 ∷ 69 ∷ 76 ∷ 76 ∷ 32 ∷ 66 ∷ 65 ∷ 89 ∷ 13 ∷ 10 ∷
    [])
    ≡ refusal 0 (BadRow 1 3)
unfolding csv_judged rows_of row_fault row_fits is_postcode text_fault filled_fault outward_fault class allowed inward_fault inward_letter suffix_fault
ends-early = refl

-- no post town
pub no-town :
    csv_judged
    (65 ∷ 66 ∷ 49 ∷ 32 ∷ 57 ∷ 90 ∷ 90 ∷ 44 ∷ 44 ∷ 44 ∷ 44 ∷ 44 ∷ 44 ∷ 44 ∷ 44 ∷ 44 ∷ 44 ∷ 44 ∷ 44 ∷ 44 ∷ 83 ∷ 44 ∷
    32 ∷ 44 ∷ 49 ∷ 65 ∷ 13 ∷ 10 ∷ [])
    ≡ refusal 0 (BadRow 1 2)
unfolding csv_judged rows_of row_fault row_fits is_postcode text_fault filled_fault outward_fault class allowed inward_fault inward_letter suffix_fault
no-town = refl

-- a double dependent locality without a dependent one
pub double-alone :
    csv_judged
    (65 ∷ 66 ∷ 49 ∷ 32 ∷ 57 ∷ 90 ∷ 90 ∷ 44 ∷ 88 ∷ 44 ∷ 44 ∷ 89 ∷ 44 ∷ 44 ∷ 44 ∷ 44 ∷ 44 ∷ 44 ∷ 44 ∷ 44 ∷ 44 ∷ 44 ∷
    83 ∷ 44 ∷ 32 ∷ 44 ∷ 49 ∷ 65 ∷ 13 ∷ 10 ∷ [])
    ≡ refusal 0 (BadRow 1 4)
unfolding csv_judged rows_of row_fault row_fits is_postcode text_fault filled_fault outward_fault class allowed inward_fault inward_letter suffix_fault
double-alone = refl

-- a department without an organisation, of a small user
pub department-alone :
    csv_judged
    (65 ∷ 66 ∷ 49 ∷ 32 ∷ 57 ∷ 90 ∷ 90 ∷ 44 ∷ 88 ∷ 44 ∷ 44 ∷ 44 ∷ 44 ∷ 44 ∷ 44 ∷ 44 ∷ 44 ∷ 44 ∷ 68 ∷ 44 ∷ 44 ∷ 44 ∷
    83 ∷ 44 ∷ 32 ∷ 44 ∷ 49 ∷ 65 ∷ 13 ∷ 10 ∷ [])
    ≡ refusal 0 (BadRow 1 12)
unfolding csv_judged rows_of row_fault row_fits is_postcode text_fault filled_fault outward_fault class allowed inward_fault inward_letter suffix_fault
department-alone = refl

-- the same of a large user
pub department-large :
    csv_judged
    (65 ∷ 66 ∷ 49 ∷ 32 ∷ 57 ∷ 90 ∷ 90 ∷ 44 ∷ 88 ∷ 44 ∷ 44 ∷ 44 ∷ 44 ∷ 44 ∷ 44 ∷ 44 ∷ 44 ∷ 44 ∷ 68 ∷ 44 ∷ 44 ∷ 44 ∷
    76 ∷ 44 ∷ 32 ∷ 44 ∷ 49 ∷ 65 ∷ 13 ∷ 10 ∷ [])
    ≡ Ok 1
unfolding csv_judged rows_of row_fault row_fits is_postcode text_fault filled_fault outward_fault class allowed inward_fault inward_letter suffix_fault
department-large = refl

-- an outward code with its padding
pub padded-postcode :
    csv_judged
    (65 ∷ 66 ∷ 49 ∷ 32 ∷ 32 ∷ 57 ∷ 90 ∷ 90 ∷ 44 ∷ 88 ∷ 44 ∷ 44 ∷ 44 ∷ 44 ∷ 44 ∷ 44 ∷ 44 ∷ 44 ∷ 44 ∷ 44 ∷ 44 ∷ 44 ∷
    83 ∷ 44 ∷ 32 ∷ 44 ∷ 49 ∷ 65 ∷ 13 ∷ 10 ∷ [])
    ≡ refusal 0 (BadRow 1 1)
unfolding csv_judged rows_of row_fault row_fits is_postcode text_fault filled_fault outward_fault class allowed inward_fault inward_letter suffix_fault
padded-postcode = refl

-- a number of five digits
pub long-number :
    csv_judged
    (65 ∷ 66 ∷ 49 ∷ 32 ∷ 57 ∷ 90 ∷ 90 ∷ 44 ∷ 88 ∷ 44 ∷ 44 ∷ 44 ∷ 44 ∷ 44 ∷ 48 ∷ 48 ∷ 48 ∷ 49 ∷ 50 ∷ 44 ∷ 44 ∷ 44 ∷
    44 ∷ 44 ∷ 44 ∷ 44 ∷ 83 ∷ 44 ∷ 32 ∷ 44 ∷ 49 ∷ 65 ∷ 13 ∷ 10 ∷ [])
    ≡ refusal 0 Uncarried
unfolding csv_judged rows_of row_fault row_fits is_postcode text_fault filled_fault outward_fault class allowed inward_fault inward_letter suffix_fault
long-number = refl

-- a double quote
pub quoted :
    csv_judged
    (65 ∷ 66 ∷ 49 ∷ 32 ∷ 57 ∷ 90 ∷ 90 ∷ 44 ∷ 34 ∷ 88 ∷ 34 ∷ 44 ∷ 44 ∷ 44 ∷ 44 ∷ 44 ∷ 44 ∷ 44 ∷ 44 ∷ 44 ∷ 44 ∷ 44 ∷
    44 ∷ 83 ∷ 44 ∷ 32 ∷ 44 ∷ 49 ∷ 65 ∷ 13 ∷ 10 ∷ [])
    ≡ refusal 0 Uncarried
unfolding csv_judged rows_of row_fault row_fits is_postcode text_fault filled_fault outward_fault class allowed inward_fault inward_letter suffix_fault
quoted = refl

-- a malformed row is told even where an earlier row has a 15
pub fourteen-first :
    csv_judged
    (65 ∷ 66 ∷ 49 ∷ 32 ∷ 57 ∷ 90 ∷ 90 ∷ 44 ∷ 34 ∷ 88 ∷ 34 ∷ 44 ∷ 44 ∷ 44 ∷ 44 ∷ 44 ∷ 44 ∷ 44 ∷ 44 ∷ 44 ∷ 44 ∷ 44 ∷
    44 ∷ 83 ∷ 44 ∷ 32 ∷ 44 ∷ 49 ∷ 65 ∷ 13 ∷ 10 ∷ 65 ∷ 66 ∷ 49 ∷ 32 ∷ 57 ∷ 90 ∷ 90 ∷ 44 ∷ 88 ∷ 44 ∷ 44 ∷ 44 ∷ 44 ∷
    44 ∷ 44 ∷ 44 ∷ 44 ∷ 44 ∷ 44 ∷ 44 ∷ 44 ∷ 83 ∷ 44 ∷ 32 ∷ 44 ∷ 65 ∷ 49 ∷ 13 ∷ 10 ∷ [])
    ≡ refusal 0 (BadRow 2 16)
unfolding csv_judged rows_of row_fault row_fits is_postcode text_fault filled_fault outward_fault class allowed inward_fault inward_letter suffix_fault
fourteen-first = refl

-- an indicator that is empty, a UDPRN of eight digits
pub empty-indicator :
    csv_judged
    (65 ∷ 66 ∷ 49 ∷ 32 ∷ 57 ∷ 90 ∷ 90 ∷ 44 ∷ 88 ∷ 44 ∷ 44 ∷ 44 ∷ 44 ∷ 44 ∷ 44 ∷ 44 ∷ 44 ∷ 44 ∷ 44 ∷ 44 ∷ 49 ∷ 50 ∷
    51 ∷ 52 ∷ 53 ∷ 54 ∷ 55 ∷ 56 ∷ 44 ∷ 76 ∷ 44 ∷ 44 ∷ 49 ∷ 65 ∷ 13 ∷ 10 ∷ [])
    ≡ Ok 1
unfolding csv_judged rows_of row_fault row_fits is_postcode text_fault filled_fault outward_fault class allowed inward_fault inward_letter suffix_fault
empty-indicator = refl

-- a lone LF belongs to its field
pub lone-lf :
    csv_judged
    (65 ∷ 66 ∷ 49 ∷ 32 ∷ 57 ∷ 90 ∷ 90 ∷ 44 ∷ 72 ∷ 65 ∷ 82 ∷ 84 ∷ 10 ∷ 87 ∷ 69 ∷ 76 ∷ 76 ∷ 32 ∷ 66 ∷ 65 ∷ 89 ∷ 44 ∷
    44 ∷ 44 ∷ 81 ∷ 85 ∷ 65 ∷ 82 ∷ 82 ∷ 89 ∷ 32 ∷ 76 ∷ 65 ∷ 78 ∷ 69 ∷ 44 ∷ 44 ∷ 44 ∷ 49 ∷ 49 ∷ 48 ∷ 45 ∷ 49 ∷ 49 ∷
    52 ∷ 44 ∷ 65 ∷ 84 ∷ 84 ∷ 73 ∷ 67 ∷ 32 ∷ 70 ∷ 76 ∷ 65 ∷ 84 ∷ 44 ∷ 44 ∷ 44 ∷ 44 ∷ 44 ∷ 83 ∷ 44 ∷ 32 ∷ 44 ∷ 49 ∷
    65 ∷ 13 ∷ 10 ∷ [])
    ≡ refusal 0 (BadRow 1 2)
unfolding csv_judged rows_of row_fault row_fits is_postcode text_fault filled_fault outward_fault class allowed inward_fault inward_letter suffix_fault
lone-lf = refl

-- a UDPRN of nine digits
pub long-udprn :
    csv_judged
    (65 ∷ 66 ∷ 49 ∷ 32 ∷ 57 ∷ 90 ∷ 90 ∷ 44 ∷ 88 ∷ 44 ∷ 44 ∷ 44 ∷ 44 ∷ 44 ∷ 44 ∷ 44 ∷ 44 ∷ 44 ∷ 44 ∷ 44 ∷ 49 ∷ 50 ∷
    51 ∷ 52 ∷ 53 ∷ 54 ∷ 55 ∷ 56 ∷ 57 ∷ 44 ∷ 83 ∷ 44 ∷ 32 ∷ 44 ∷ 49 ∷ 65 ∷ 13 ∷ 10 ∷ [])
    ≡ refusal 0 Uncarried
unfolding csv_judged rows_of row_fault row_fits is_postcode text_fault filled_fault outward_fault class allowed inward_fault inward_letter suffix_fault
long-udprn = refl

-- a town of 31 bytes, its trailing spaces counted
pub counted-spaces :
    csv_judged
    (65 ∷ 66 ∷ 49 ∷ 32 ∷ 57 ∷ 90 ∷ 90 ∷ 44 ∷ 88 ∷ 32 ∷ 32 ∷ 32 ∷ 32 ∷ 32 ∷ 32 ∷ 32 ∷ 32 ∷ 32 ∷ 32 ∷ 32 ∷ 32 ∷ 32 ∷
    32 ∷ 32 ∷ 32 ∷ 32 ∷ 32 ∷ 32 ∷ 32 ∷ 32 ∷ 32 ∷ 32 ∷ 32 ∷ 32 ∷ 32 ∷ 32 ∷ 32 ∷ 32 ∷ 32 ∷ 44 ∷ 44 ∷ 44 ∷ 44 ∷ 44 ∷
    44 ∷ 44 ∷ 44 ∷ 44 ∷ 44 ∷ 44 ∷ 44 ∷ 83 ∷ 44 ∷ 32 ∷ 44 ∷ 49 ∷ 65 ∷ 13 ∷ 10 ∷ [])
    ≡ refusal 0 Uncarried
unfolding csv_judged rows_of row_fault row_fits is_postcode text_fault filled_fault outward_fault class allowed inward_fault inward_letter suffix_fault
counted-spaces = refl

-- and of 30
pub thirty-bytes :
    csv_judged
    (65 ∷ 66 ∷ 49 ∷ 32 ∷ 57 ∷ 90 ∷ 90 ∷ 44 ∷ 88 ∷ 32 ∷ 32 ∷ 32 ∷ 32 ∷ 32 ∷ 32 ∷ 32 ∷ 32 ∷ 32 ∷ 32 ∷ 32 ∷ 32 ∷ 32 ∷
    32 ∷ 32 ∷ 32 ∷ 32 ∷ 32 ∷ 32 ∷ 32 ∷ 32 ∷ 32 ∷ 32 ∷ 32 ∷ 32 ∷ 32 ∷ 32 ∷ 32 ∷ 32 ∷ 44 ∷ 44 ∷ 44 ∷ 44 ∷ 44 ∷ 44 ∷
    44 ∷ 44 ∷ 44 ∷ 44 ∷ 44 ∷ 44 ∷ 83 ∷ 44 ∷ 32 ∷ 44 ∷ 49 ∷ 65 ∷ 13 ∷ 10 ∷ [])
    ≡ Ok 1
unfolding csv_judged rows_of row_fault row_fits is_postcode text_fault filled_fault outward_fault class allowed inward_fault inward_letter suffix_fault
thirty-bytes = refl

-- a number both malformed and too long
pub malformed-and-long :
    csv_judged
    (65 ∷ 66 ∷ 49 ∷ 32 ∷ 57 ∷ 90 ∷ 90 ∷ 44 ∷ 88 ∷ 44 ∷ 44 ∷ 44 ∷ 44 ∷ 44 ∷ 49 ∷ 50 ∷ 51 ∷ 52 ∷ 88 ∷ 44 ∷ 44 ∷ 44 ∷
    44 ∷ 44 ∷ 44 ∷ 44 ∷ 83 ∷ 44 ∷ 32 ∷ 44 ∷ 49 ∷ 65 ∷ 13 ∷ 10 ∷ [])
    ≡ refusal 0 (BadRow 1 7)
unfolding csv_judged rows_of row_fault row_fits is_postcode text_fault filled_fault outward_fault class allowed inward_fault inward_letter suffix_fault
malformed-and-long = refl

-- a joined thoroughfare of 80 bytes
pub street-80 :
    csv_judged
    (65 ∷ 66 ∷ 49 ∷ 32 ∷ 57 ∷ 90 ∷ 90 ∷ 44 ∷ 88 ∷ 44 ∷ 44 ∷ 44 ∷ 83 ∷ 83 ∷ 83 ∷ 83 ∷ 83 ∷ 83 ∷ 83 ∷ 83 ∷ 83 ∷ 83 ∷
    83 ∷ 83 ∷ 83 ∷ 83 ∷ 83 ∷ 83 ∷ 83 ∷ 83 ∷ 83 ∷ 83 ∷ 83 ∷ 83 ∷ 83 ∷ 83 ∷ 83 ∷ 83 ∷ 83 ∷ 83 ∷ 83 ∷ 83 ∷ 83 ∷ 83 ∷
    83 ∷ 83 ∷ 83 ∷ 83 ∷ 83 ∷ 83 ∷ 83 ∷ 83 ∷ 83 ∷ 83 ∷ 83 ∷ 83 ∷ 83 ∷ 83 ∷ 83 ∷ 83 ∷ 83 ∷ 83 ∷ 83 ∷ 83 ∷ 83 ∷ 83 ∷
    83 ∷ 83 ∷ 83 ∷ 83 ∷ 83 ∷ 83 ∷ 83 ∷ 83 ∷ 83 ∷ 83 ∷ 83 ∷ 83 ∷ 83 ∷ 83 ∷ 83 ∷ 83 ∷ 83 ∷ 83 ∷ 83 ∷ 83 ∷ 83 ∷ 83 ∷
    83 ∷ 83 ∷ 83 ∷ 83 ∷ 44 ∷ 44 ∷ 44 ∷ 44 ∷ 44 ∷ 44 ∷ 44 ∷ 44 ∷ 44 ∷ 83 ∷ 44 ∷ 32 ∷ 44 ∷ 49 ∷ 65 ∷ 13 ∷ 10 ∷ [])
    ≡ Ok 1
unfolding csv_judged rows_of row_fault row_fits is_postcode text_fault filled_fault outward_fault class allowed inward_fault inward_letter suffix_fault
street-80 = refl

-- and of 81
pub street-81 :
    csv_judged
    (65 ∷ 66 ∷ 49 ∷ 32 ∷ 57 ∷ 90 ∷ 90 ∷ 44 ∷ 88 ∷ 44 ∷ 44 ∷ 44 ∷ 83 ∷ 83 ∷ 83 ∷ 83 ∷ 83 ∷ 83 ∷ 83 ∷ 83 ∷ 83 ∷ 83 ∷
    83 ∷ 83 ∷ 83 ∷ 83 ∷ 83 ∷ 83 ∷ 83 ∷ 83 ∷ 83 ∷ 83 ∷ 83 ∷ 83 ∷ 83 ∷ 83 ∷ 83 ∷ 83 ∷ 83 ∷ 83 ∷ 83 ∷ 83 ∷ 83 ∷ 83 ∷
    83 ∷ 83 ∷ 83 ∷ 83 ∷ 83 ∷ 83 ∷ 83 ∷ 83 ∷ 83 ∷ 83 ∷ 83 ∷ 83 ∷ 83 ∷ 83 ∷ 83 ∷ 83 ∷ 83 ∷ 83 ∷ 83 ∷ 83 ∷ 83 ∷ 83 ∷
    83 ∷ 83 ∷ 83 ∷ 83 ∷ 83 ∷ 83 ∷ 83 ∷ 83 ∷ 83 ∷ 83 ∷ 83 ∷ 83 ∷ 83 ∷ 83 ∷ 83 ∷ 83 ∷ 83 ∷ 83 ∷ 83 ∷ 83 ∷ 83 ∷ 83 ∷
    83 ∷ 83 ∷ 83 ∷ 83 ∷ 83 ∷ 44 ∷ 44 ∷ 44 ∷ 44 ∷ 44 ∷ 44 ∷ 44 ∷ 44 ∷ 44 ∷ 83 ∷ 44 ∷ 32 ∷ 44 ∷ 49 ∷ 65 ∷ 13 ∷ 10 ∷ [])
    ≡ refusal 0 Uncarried
unfolding csv_judged rows_of row_fault row_fits is_postcode text_fault filled_fault outward_fault class allowed inward_fault inward_letter suffix_fault
street-81 = refl

-- a sub building without name or number; `0000` is no number
pub rule-1 :
    csv_label
    (65 ∷ 66 ∷ 49 ∷ 32 ∷ 57 ∷ 90 ∷ 90 ∷ 44 ∷ 88 ∷ 44 ∷ 44 ∷ 44 ∷ 83 ∷ 44 ∷ 44 ∷ 48 ∷ 48 ∷ 48 ∷ 48 ∷ 44 ∷ 44 ∷ 65 ∷
    44 ∷ 44 ∷ 44 ∷ 44 ∷ 44 ∷ 83 ∷ 44 ∷ 32 ∷ 44 ∷ 49 ∷ 65 ∷ 13 ∷ 10 ∷ [])
    1
    []
    ≡ said (refusal 0 (Combination 1 0)) []
unfolding csv_label csv_judged row_label rows_of row_fault row_fits is_postcode text_fault filled_fault outward_fault class allowed inward_fault inward_letter suffix_fault row_resolved row_elements forbidden_in value digit_value numeric_like number_text lines_of label_of room_outcome
rule-1 = refl

-- a dependent thoroughfare without a thoroughfare
pub rule-2 :
    csv_label
    (65 ∷ 66 ∷ 49 ∷ 32 ∷ 57 ∷ 90 ∷ 90 ∷ 44 ∷ 88 ∷ 44 ∷ 44 ∷ 44 ∷ 44 ∷ 68 ∷ 44 ∷ 44 ∷ 44 ∷ 44 ∷ 44 ∷ 44 ∷ 44 ∷ 44 ∷
    83 ∷ 44 ∷ 32 ∷ 44 ∷ 49 ∷ 65 ∷ 13 ∷ 10 ∷ [])
    1
    []
    ≡ said (refusal 0 (Combination 2 0)) []
unfolding csv_label csv_judged row_label rows_of row_fault row_fits is_postcode text_fault filled_fault outward_fault class allowed inward_fault inward_letter suffix_fault row_resolved row_elements forbidden_in value digit_value numeric_like number_text lines_of label_of room_outcome
rule-2 = refl

-- trailing spaces are not printed: `X` and the postcode, 10 bytes
pub padding :
    csv_label
    (65 ∷ 66 ∷ 49 ∷ 32 ∷ 57 ∷ 90 ∷ 90 ∷ 44 ∷ 88 ∷ 32 ∷ 32 ∷ 32 ∷ 44 ∷ 44 ∷ 44 ∷ 44 ∷ 44 ∷ 44 ∷ 44 ∷ 44 ∷ 44 ∷ 44 ∷
    44 ∷ 44 ∷ 83 ∷ 44 ∷ 32 ∷ 44 ∷ 49 ∷ 65 ∷ 13 ∷ 10 ∷ [])
    1
    []
    ≡ said (refusal 0 (Room 10)) []
unfolding csv_label csv_judged row_label rows_of row_fault row_fits is_postcode text_fault filled_fault outward_fault class allowed inward_fault inward_letter suffix_fault row_resolved row_elements forbidden_in value digit_value numeric_like number_text lines_of label_of room_outcome
padding = refl

-- what a row cannot carry: a comma in a PO box, a double quote in a name, a joined thoroughfare of 81 bytes; and 80 it can
abbrev with-texts : (box building thoroughfare : List ℕ) → Elements
with-texts box building thoroughfare =
    record {
      organisation = [];
      department = [];
      box = box;
      sub_building = [];
      building = building;
      number = 0;
      concatenation = false;
      dependent = [];
      dependent_descriptor = [];
      thoroughfare = thoroughfare;
      descriptor = 76 ∷ [];
      double_locality = [];
      dependent_locality = [];
      town = 88 ∷ [];
      outward = 65 ∷ 49 ∷ [];
      inward = 57 ∷ 90 ∷ 90 ∷ [];
    }

pub comma-not-carried : carried (with-texts (49 ∷ 44 ∷ []) [] (83 ∷ [])) ≡ false
unfolding carried
comma-not-carried = refl

pub quote-not-carried : carried (with-texts [] (34 ∷ []) (83 ∷ [])) ≡ false
unfolding carried
quote-not-carried = refl

pub long-not-carried : carried (with-texts [] [] (replicate 79 83)) ≡ false
unfolding carried
long-not-carried = refl

pub eighty-carried : carried (with-texts [] [] (replicate 78 83)) ≡ true
unfolding carried
eighty-carried = refl
