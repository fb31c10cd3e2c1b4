-- The labels of a file of CSV PAF, one, in turn or listed.
-- Assumes nothing.
use Rattle.std.specs.Prelude.{ℕ, zero, suc, Bool, false, cond, not, List, [], ◌∷◌, ◌++◌, eqb, get_or}
use Rattle.std.proofs.Math.Option.{Option, none, some}
use Rattle.field.specs.Digits.{value}
use Rattle.field.specs.Text.{trim}
use Rattle.refusal.specs.declared.Reason.TheVariants.{NoSuchNumber, Combination}
use Rattle.refusal.specs.Outcome.{Outcome, said, afterwards}
use Rattle.run.specs.Series.{run_from}
use Rattle.source.specs.Address.{Elements, present}
use Rattle.source.specs.Resolve.{Resolved, elements, refused, forbidden_of}
use Rattle.label.specs.Lines.{is_empty}
use Rattle.label.specs.Label.{resolved_outcome}
use Rattle.item.specs.Lines.{spaced_number}
use Rattle.item.specs.Item.{item_outcome}
use Rattle.csv_paf.specs.File.{fields_of, rows_of, outward_in, inward_in, csv_judged}
use Rattle.refusal.specs.Answer.{Answer, refusal}
use Rattle.run.specs.Series.{Series}

-- a field's text: "trailing spaces are padding"
abbrev pub text_at : List (List ℕ) → ℕ → List ℕ
text_at fs n = trim (get_or fs n [])

-- what the label of a row is printed from: "the joined thoroughfare as the name, no descriptor, no concatenation"
unfoldable pub row_elements : List (List ℕ) → Elements
row_elements fs =
    record {
      organisation = text_at fs 11;
      department = text_at fs 10;
      box = text_at fs 9;
      sub_building = text_at fs 8;
      building = text_at fs 7;
      number = value (get_or fs 6 []);
      concatenation = false;
      dependent = text_at fs 5;
      dependent_descriptor = [];
      thoroughfare = text_at fs 4;
      descriptor = [];
      double_locality = text_at fs 3;
      dependent_locality = text_at fs 2;
      town = text_at fs 1;
      outward = outward_in (get_or fs 0 []);
      inward = inward_in (get_or fs 0 []);
    }

abbrev pub filled : List ℕ → Bool
filled text = not (is_empty text)

-- refusal 8: "rules 1 and 2 by which fields are filled; rule 3 cannot occur, since a joined thoroughfare is a name"
unfoldable pub forbidden_in : Elements → ℕ
forbidden_in e =
    forbidden_of (filled e.sub_building) (filled e.building) (present e.number) (filled e.thoroughfare) false
    (filled e.dependent) false

unfoldable pub row_resolved : List ℕ → Resolved
row_resolved row =
    cond (eqb (forbidden_in (row_elements (fields_of row))) 0) (elements (row_elements (fields_of row)))
    (refused (Combination (forbidden_in (row_elements (fields_of row))) 0))

-- the k-th of some rows, counted from 1
abbrev pub kth_of : List (List ℕ) → ℕ → Option (List ℕ)
kth_of [] k = none
kth_of (row ∷ rows) zero = none
kth_of (row ∷ rows) (suc zero) = some row
kth_of (row ∷ rows) (suc (suc k)) = kth_of rows (suc k)

abbrev pub resolved_of : Option (List ℕ) → Option Resolved
resolved_of none = none
resolved_of (some row) = some (row_resolved row)

-- "then 7 where the row asked for is not there; then 8 of that row ..; then 10"
abbrev pub label_or : Option Resolved → List ℕ → Outcome Answer
label_or none out = said (refusal 0 NoSuchNumber) out
label_or (some r) out = resolved_outcome r out

unfoldable pub row_label : List ℕ → (row : ℕ) → List ℕ → Outcome Answer
row_label csv row out = label_or (resolved_of (kth_of (rows_of csv) row)) out

-- "reading: 14, 15, 8, 10"
unfoldable pub csv_label : List ℕ → (row : ℕ) → List ℕ → Outcome Answer
csv_label csv row out = afterwards refusal (csv_judged csv) out (row_label csv row out)

-- a run of labels
unfoldable pub csv_labels : List ℕ → (first count : ℕ) → List ℕ → Outcome Series
csv_labels csv first count out = afterwards refusal (csv_judged csv) out (run_from (csv_label csv) first count out)

-- a listing: the line `row N`, then the label or the line of its refusal
abbrev pub row_word : List ℕ
row_word = 114 ∷ 111 ∷ 119 ∷ []

unfoldable pub row_line : ℕ → List ℕ
row_line row = row_word ++ (spaced_number row ++ (10 ∷ []))

unfoldable pub row_item : List ℕ → (row : ℕ) → List ℕ → Outcome Answer
row_item csv row out = item_outcome (row_line row) (resolved_of (kth_of (rows_of csv) row)) out

unfoldable pub csv_item : List ℕ → (row : ℕ) → List ℕ → Outcome Answer
csv_item csv row out = afterwards refusal (csv_judged csv) out (row_item csv row out)

unfoldable pub csv_list : List ℕ → (first count : ℕ) → List ℕ → Outcome Series
csv_list csv first count out = afterwards refusal (csv_judged csv) out (run_from (csv_item csv) first count out)
