-- Document 01's run, computed: two files, byte by byte, and their report.
-- Assumes nothing.
use Prim.Native.Nat.{ℕ, zero, suc, ◌+◌, ◌/◌, ◌%◌, ◌^◌}
use mathlib.Core.Path.{◌≡◌, refl}
use mathlib.Core.List.{List, [], ◌∷◌, ◌++◌}
use lib.ListN.{take, replicate, set}
use Rattle.field.specs.Digits.{digits_fault, digit_value, value}
use Rattle.field.specs.Text.{text_fault, filled_fault, text_in, numeric_like}
use Rattle.file_ends.specs.Ends.{identifier, header_ok, trailer_ok}
use Rattle.file_record.specs.Parts.{record_at}
use Rattle.field_outward.specs.Inward.{inward_letter, inward_fault, suffix_fault}
use Rattle.field_outward.specs.Outward.{class, allowed, outward_fault}
use Rattle.file_fault.specs.Fields.{one_of, key_fault}
use Rattle.file_fault.specs.Point.{point_fault}
use Rattle.file_fault.specs.Table.{double_fault, table_fault}
use Rattle.file.specs.Check.{judged, verdict, checked}
use Rattle.file.specs.Formats.{changes, needed, follows, placed}
use Rattle.changes_views.specs.Views.{wanted, wanted_in, wanted_count, wanted_at}
use Rattle.shelf.specs.Shelf.{ref_at, texts_at, last_row, in_force, row_of}
use Rattle.shelf.specs.Stock.{look_in}
use Rattle.source.proofs.Worked.{bay, quarry, lane, range, attic}
use Rattle.source.specs.Resolve.{forbidden, missing, elements_of, resolve}
use Rattle.changes_source.specs.Addresses.{address_of}
use Rattle.label.specs.Label.{label_of}
use Rattle.label.specs.Lines.{number_text, lines_of}
use Rattle.item.specs.Lines.{decimal, view_line, byte_text, refused_text}
use Rattle.report.specs.Report.{view_text, block, pair_text, points_text, report_of}

-- a number as so many digits
abbrev digits_of : ℕ → ℕ → List ℕ
digits_of zero n = []
digits_of (suc w) n = (48 + n / 10 ^ w % 10) ∷ digits_of w n

-- a field of n bytes, padded with spaces
abbrev field : ℕ → List ℕ → List ℕ
field n t = take n (t ++ replicate n 32)

-- a table record: type, key, date, time, letter, then its fields
abbrev row_on : ℕ → ℕ → ℕ → ℕ → List ℕ → List ℕ
row_on day letter kind key rest =
    (48 + kind) ∷ (digits_of 8 key ++ (digits_of 8 day ++ (digits_of 6 0 ++ (letter ∷ field 145 rest))))

abbrev row : ℕ → ℕ → List ℕ → List ℕ
row kind key rest = row_on 0 32 kind key rest

-- so many records, with these for the building
abbrev table_with : ℕ → List ℕ → List ℕ
table_with records building =
    (replicate 9 0 ++ (changes 49 ++ replicate 152 32))
    ++ (row 1 1 (replicate 45 32 ++ bay)
    ++ (row 2 7 quarry
    ++ (row 3 3 lane
    ++ (building ++ (row 5 4 attic ++ (replicate 9 255 ++ (digits_of 8 records ++ replicate 152 32)))))))

-- "locality 1 HARTWELL BAY, thoroughfare 7 QUARRY, descriptor 3 LANE, building 9 `110-114`, sub building 4 ATTIC FLAT"
abbrev pub table : List ℕ
table = table_with 7 (row 4 9 range)

-- "One building name was inserted, then respelt in the same month": first 110-141, then 110-114
abbrev twice : List ℕ
twice = row_on 20_110_901 73 4 9 (49 ∷ 49 ∷ 48 ∷ 45 ∷ 49 ∷ 52 ∷ 49 ∷ []) ++ row_on 20_110_915 67 4 9 range

abbrev pub respelt : List ℕ
respelt = table_with 8 twice

-- and then deleted
abbrev pub ended : List ℕ
ended = table_with 9 (twice ++ row_on 20_110_930 68 4 9 range)

-- a view of AB1 9ZZ on a day, with a letter and a building key; it "uses all five"
abbrev view : ℕ → ℕ → ℕ → List ℕ
view day letter building =
    digits_of 8 day
    ++ (digits_of 6 101_501
    ++ ((65 ∷ 66 ∷ 49 ∷ 32 ∷ 57 ∷ 90 ∷ 90 ∷ 49 ∷ 65 ∷ 83 ∷ [])
    ++ (digits_of 8 1
    ++ (digits_of 8 0
    ++ (letter ∷ 49 ∷ (digits_of 8 1
    ++ (digits_of 8 7
    ++ (digits_of 8 3
    ++ (digits_of 8 0
    ++ (digits_of 8 0
    ++ (digits_of 4 0
    ++ (digits_of 8 building
    ++ (digits_of 8 4
    ++ (digits_of 4 1 ++ (replicate 8 32 ++ (digits_of 2 1 ++ replicate 52 32))))))))))))))))

abbrev pub points : List ℕ
points =
    (replicate 14 0 ++ (changes 50 ++ replicate 146 32))
    ++ (view 20_110_901 73 9
    ++ (view 20_110_902 68 10 ++ (replicate 14 255 ++ (digits_of 8 4 ++ replicate 146 32))))

-- pair 7 4 2, the 7 being as many records of the table file
abbrev pair_line : ℕ → List ℕ
pair_line records = 112 ∷ 97 ∷ 105 ∷ 114 ∷ 32 ∷ (48 + records) ∷ 32 ∷ 52 ∷ 32 ∷ 50 ∷ 10 ∷ []

-- view 1 I
abbrev view-1 : List ℕ
view-1 = 118 ∷ 105 ∷ 101 ∷ 119 ∷ 32 ∷ 49 ∷ 32 ∷ 73 ∷ 10 ∷ []

-- ATTIC FLAT
abbrev line-1 : List ℕ
line-1 = 65 ∷ 84 ∷ 84 ∷ 73 ∷ 67 ∷ 32 ∷ 70 ∷ 76 ∷ 65 ∷ 84 ∷ 10 ∷ []

-- 110-114 QUARRY LANE
abbrev line-2 : List ℕ
line-2 = 49 ∷ 49 ∷ 48 ∷ 45 ∷ 49 ∷ 49 ∷ 52 ∷ 32 ∷ 81 ∷ 85 ∷ 65 ∷ 82 ∷ 82 ∷ 89 ∷ 32 ∷ 76 ∷ 65 ∷ 78 ∷ 69 ∷ 10 ∷ []

-- HARTWELL BAY
abbrev line-3 : List ℕ
line-3 = 72 ∷ 65 ∷ 82 ∷ 84 ∷ 87 ∷ 69 ∷ 76 ∷ 76 ∷ 32 ∷ 66 ∷ 65 ∷ 89 ∷ 10 ∷ []

-- AB1 9ZZ
abbrev line-4 : List ℕ
line-4 = 65 ∷ 66 ∷ 49 ∷ 32 ∷ 57 ∷ 90 ∷ 90 ∷ 10 ∷ []

-- view 2 D
abbrev view-2 : List ℕ
view-2 = 118 ∷ 105 ∷ 101 ∷ 119 ∷ 32 ∷ 50 ∷ 32 ∷ 68 ∷ 10 ∷ []

-- refused 9 6
abbrev refused-line : List ℕ
refused-line = 114 ∷ 101 ∷ 102 ∷ 117 ∷ 115 ∷ 101 ∷ 100 ∷ 32 ∷ 57 ∷ 32 ∷ 54 ∷ 10 ∷ []

-- what a run is computed from: to unfold this is to unfold all that its line names
unfoldable pub run-computes : Unit {0}
unfolding digits_fault digit_value value text_fault filled_fault text_in numeric_like identifier header_ok trailer_ok record_at inward_letter inward_fault suffix_fault class allowed outward_fault one_of key_fault point_fault double_fault table_fault judged verdict checked needed follows placed wanted wanted_in wanted_count wanted_at ref_at texts_at last_row in_force row_of look_in forbidden missing elements_of resolve address_of label_of number_text lines_of decimal view_line byte_text refused_text view_text block pair_text points_text report_of
run-computes = tt

pub one-run : report_of table points
    ≡ pair_line 7 ++ (view-1 ++ (line-1 ++ (line-2 ++ (line-3 ++ (line-4 ++ (view-2 ++ refused-line))))))
unfolding run-computes
one-run = refl

-- a respelt building prints its last spelling; a deleted one is missing
pub one-twice :
    (report_of respelt points
    ≡ pair_line 8 ++ (view-1 ++ (line-1 ++ (line-2 ++ (line-3 ++ (line-4 ++ (view-2 ++ refused-line)))))))
    × (report_of ended points ≡ pair_line 9 ++ (view-1 ++ (refused-line ++ (view-2 ++ refused-line))))
unfolding run-computes
one-twice = (refl, refl)

-- document 01's run with a small q for the Q of QUARRY, byte 25 of record 3: table refused 4 3 25
abbrev misspelt-line : List ℕ
misspelt-line =
    116 ∷ 97 ∷ 98 ∷ 108 ∷ 101 ∷ 32 ∷ 114 ∷ 101 ∷ 102 ∷ 117 ∷ 115 ∷ 101 ∷ 100 ∷ 32 ∷ 52 ∷ 32 ∷ 51 ∷ 32 ∷ 50 ∷ 53 ∷ 10 ∷ []

pub one-refused : report_of (set table 362 113) points ≡ misspelt-line
unfolding run-computes
one-refused = refl
