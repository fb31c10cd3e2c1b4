-- Chapter 5's sample record, restored to its 88 bytes, with the texts of Table 35: seven files, byte by byte, and the label,
-- computed; and where the first fault of a damaged record stands.
-- Assumes nothing.
use Prim.Native.Nat.{ℕ, zero, suc, ◌+◌, ◌/◌, ◌%◌, ◌^◌}
use mathlib.Core.Path.{◌≡◌, refl}
use mathlib.Core.List.{List, [], ◌∷◌, ◌++◌}
use lib.ListN.{take, replicate}
use Rattle.field.specs.Digits.{digits_fault, digit_value, value}
use Rattle.field.specs.Text.{text_fault, filled_fault, text_in, numeric_like}
use Rattle.field_outward.specs.Inward.{inward_letter, inward_fault, suffix_fault}
use Rattle.field_outward.specs.Outward.{class, allowed, outward_fault}
use Rattle.refusal.specs.Outcome.{said}
use Rattle.file_record.specs.Parts.{record_at}
use Rattle.file_ends.specs.Ends.{identifier}
use Rattle.file_fault.specs.Fields.{one_of, key_fault}
use Rattle.file_fault.specs.Table.{double_fault}
use Rattle.mainfile_fault.specs.Faults.{main_locality_fault, main_text_fault, main_organisation_fault, main_address_fault}
use Rattle.mainfile_ends.specs.Ends.{zeros_named, nines_counted, address_header_ok, address_trailer_ok}
use Rattle.file.specs.Check.{judged, verdict, checked}
use Rattle.shelf.specs.Shelf.{ref_at, texts_at, last_row, in_force, row_of}
use Rattle.shelf.specs.Stock.{look_in}
use Rattle.source.specs.Resolve.{forbidden, missing, elements_of, resolve}
use Rattle.label.specs.Lines.{number_text, lines_of}
use Rattle.label.specs.Label.{label_of, room_outcome}
use Rattle.ask.specs.Labels.{kth_label, view_label}
use Rattle.mainfile.specs.Set.{Set, set_of, set_judged}
use Rattle.mainfile.specs.Rows.{set_stock, organisation_row}
use Rattle.mainfile.specs.Addresses.{needs_row, joined_row, address_of, addresses_in}
use Rattle.mainfile.specs.Main.{main_of}
use Rattle.std.specs.Prelude.{Ok}

-- ---- files of one record

-- a number as so many digits
abbrev digits_of : ℕ → ℕ → List ℕ
digits_of zero n = []
digits_of (suc w) n = (48 + n / 10 ^ w % 10) ∷ digits_of w n

-- a field of n bytes, padded with spaces
abbrev field : ℕ → List ℕ → List ℕ
field n t = take n (t ++ replicate n 32)

-- a file of records of a width between a header and a trailer of three records, each behind a front of its own
abbrev between : (width : ℕ) → (low high name rec : List ℕ) → List ℕ
between width low high name rec =
    field width (low ++ (digits_of 8 0 ++ name))
    ++ (field width rec ++ field width (high ++ (digits_of 8 99_999_999 ++ digits_of 8 3)))

abbrev file : (width : ℕ) → (name rec : List ℕ) → List ℕ
file width name rec = between width [] [] name rec

-- LOCALITY
abbrev name-locality : List ℕ
name-locality = 76 ∷ 79 ∷ 67 ∷ 65 ∷ 76 ∷ 73 ∷ 84 ∷ 89 ∷ []

-- THOROUGH
abbrev name-thorough : List ℕ
name-thorough = 84 ∷ 72 ∷ 79 ∷ 82 ∷ 79 ∷ 85 ∷ 71 ∷ 72 ∷ []

-- THDESCRI
abbrev name-thdescri : List ℕ
name-thdescri = 84 ∷ 72 ∷ 68 ∷ 69 ∷ 83 ∷ 67 ∷ 82 ∷ 73 ∷ []

-- BUILDING
abbrev name-building : List ℕ
name-building = 66 ∷ 85 ∷ 73 ∷ 76 ∷ 68 ∷ 73 ∷ 78 ∷ 71 ∷ []

-- SUBBUILD
abbrev name-subbuild : List ℕ
name-subbuild = 83 ∷ 85 ∷ 66 ∷ 66 ∷ 85 ∷ 73 ∷ 76 ∷ 68 ∷ []

-- ORGANISA
abbrev name-organisa : List ℕ
name-organisa = 79 ∷ 82 ∷ 71 ∷ 65 ∷ 78 ∷ 73 ∷ 83 ∷ 65 ∷ []

-- ADDRESS
abbrev name-address : List ℕ
name-address = 65 ∷ 68 ∷ 68 ∷ 82 ∷ 69 ∷ 83 ∷ 83 ∷ 32 ∷ []

-- ---- the texts of Table 35

-- GLASGOW
abbrev glasgow : List ℕ
glasgow = 71 ∷ 76 ∷ 65 ∷ 83 ∷ 71 ∷ 79 ∷ 87 ∷ []

-- BLANTYRE
abbrev blantyre : List ℕ
blantyre = 66 ∷ 76 ∷ 65 ∷ 78 ∷ 84 ∷ 89 ∷ 82 ∷ 69 ∷ []

-- BLANTYRE INDUSTRIAL ESTATE
abbrev estate : List ℕ
estate =
    66 ∷ 76 ∷ 65 ∷ 78 ∷ 84 ∷ 89 ∷ 82 ∷ 69 ∷ 32 ∷ 73 ∷ 78 ∷ 68 ∷ 85 ∷ 83 ∷ 84 ∷ 82 ∷ 73 ∷ 65 ∷ 76 ∷ 32 ∷ 69 ∷
    83 ∷ 84 ∷ 65 ∷ 84 ∷ 69 ∷ []

-- THIRD
abbrev third : List ℕ
third = 84 ∷ 72 ∷ 73 ∷ 82 ∷ 68 ∷ []

-- ROAD
abbrev road : List ℕ
road = 82 ∷ 79 ∷ 65 ∷ 68 ∷ []

-- BLOCK 3
abbrev block : List ℕ
block = 66 ∷ 76 ∷ 79 ∷ 67 ∷ 75 ∷ 32 ∷ 51 ∷ []

-- UNIT 1
abbrev unit : List ℕ
unit = 85 ∷ 78 ∷ 73 ∷ 84 ∷ 32 ∷ 49 ∷ []

-- SOUTH LANARKSHIRE COUNCIL
abbrev council : List ℕ
council =
    83 ∷ 79 ∷ 85 ∷ 84 ∷ 72 ∷ 32 ∷ 76 ∷ 65 ∷ 78 ∷ 65 ∷ 82 ∷ 75 ∷ 83 ∷ 72 ∷ 73 ∷ 82 ∷ 69 ∷ 32 ∷ 67 ∷ 79 ∷ 85 ∷
    78 ∷ 67 ∷ 73 ∷ 76 ∷ []

-- HEAD START
abbrev head-start : List ℕ
head-start = 72 ∷ 69 ∷ 65 ∷ 68 ∷ 32 ∷ 83 ∷ 84 ∷ 65 ∷ 82 ∷ 84 ∷ []

-- the sample record with the eight spaces and two zeros that its printing lost
abbrev printed : List ℕ
printed =
    71 ∷ 55 ∷ 50 ∷ 32 ∷ 48 ∷ 85 ∷ 80 ∷ 49 ∷ 56 ∷ 49 ∷ 56 ∷ 49 ∷ 56 ∷ 50 ∷ 50 ∷ 48 ∷ 51 ∷ 57 ∷ 50 ∷ 53 ∷ 56 ∷
    48 ∷ 48 ∷ 48 ∷ 48 ∷ 48 ∷ 50 ∷ 49 ∷ 51 ∷ 48 ∷ 48 ∷ 48 ∷ 49 ∷ 48 ∷ 48 ∷ 48 ∷ 48 ∷ 48 ∷ 48 ∷ 48 ∷ 48 ∷ 48 ∷
    48 ∷ 48 ∷ 48 ∷ 48 ∷ 48 ∷ 48 ∷ 48 ∷ 48 ∷ 48 ∷ 48 ∷ 48 ∷ 53 ∷ 50 ∷ 49 ∷ 54 ∷ 48 ∷ 48 ∷ 54 ∷ 55 ∷ 54 ∷ 56 ∷
    52 ∷ 57 ∷ 48 ∷ 48 ∷ 48 ∷ 49 ∷ 48 ∷ 49 ∷ 56 ∷ 57 ∷ 57 ∷ 55 ∷ 56 ∷ 53 ∷ 83 ∷ 32 ∷ 50 ∷ 66 ∷ 89 ∷ 32 ∷ 32 ∷
    32 ∷ 32 ∷ 32 ∷ 32 ∷ []

-- locality 39258, thoroughfare 213, descriptor 1, building 5216, sub building 676849, organisation 1899785 of type S
abbrev locality : List ℕ
locality = digits_of 6 39_258 ++ (replicate 45 32 ++ (field 30 glasgow ++ (field 35 blantyre ++ field 35 estate)))

abbrev organisation : (type : ℕ) → (name : List ℕ) → List ℕ
organisation type name = digits_of 8 1_899_785 ++ (type ∷ (field 60 name ++ field 60 head-start))

abbrev set : Set
set =
    set_of (file 151 name-locality locality) (file 68 name-thorough (digits_of 8 213 ++ third))
    (file 30 name-thdescri (digits_of 4 1 ++ road)) (file 58 name-building (digits_of 8 5_216 ++ block))
    (file 38 name-subbuild (digits_of 8 676_849 ++ unit)) (file 153 name-organisa (organisation 83 council))
    (between 88 (replicate 7 0) (replicate 7 255) name-address printed)

-- ---- what it prints

-- G72 0UP
abbrev g72 : List ℕ
g72 = 71 ∷ 55 ∷ 50 ∷ 32 ∷ 48 ∷ 85 ∷ 80 ∷ []

abbrev line : List ℕ → List ℕ
line t = t ++ (10 ∷ [])

-- "SOUTH LANARKSHIRE COUNCIL / HEAD START / UNIT 1 / BLOCK 3 / THIRD ROAD / BLANTYRE INDUSTRIAL ESTATE / BLANTYRE / GLASGOW /
-- G72 0UP"
abbrev label : List ℕ
label =
    line council
    ++ (line head-start
    ++ (line unit
    ++ (line block
    ++ (line (third ++ (32 ∷ road)) ++ (line estate ++ (line blantyre ++ (line glasgow ++ line g72)))))))

-- what a run is computed from: to unfold this is to unfold all that its line names
unfoldable pub set-computes : Unit {0}
unfolding digits_fault digit_value value text_fault filled_fault text_in numeric_like inward_letter inward_fault suffix_fault class allowed outward_fault record_at identifier one_of key_fault double_fault main_locality_fault main_text_fault main_organisation_fault main_address_fault zeros_named nines_counted address_header_ok address_trailer_ok judged verdict checked ref_at texts_at last_row in_force row_of look_in forbidden missing elements_of resolve number_text lines_of label_of room_outcome kth_label view_label set_judged set_stock organisation_row needs_row joined_row address_of addresses_in
set-computes = tt

pub table-35 : view_label (main_of set) 1 (replicate 200 0) ≡ said (Ok 115) (label ++ replicate 85 0)
unfolding set-computes
table-35 = refl

-- ---- damaged records

-- an organisation of type S without a name: its first fault is at byte 10; one of type L may have none
pub nameless : (main_organisation_fault (organisation 83 []) ≡ 10) × (main_organisation_fault (organisation 76 []) ≡ 0)
unfolding set-computes
nameless = (refl, refl)

-- a double dependent locality without a dependent one: at byte 117
pub double-alone : main_locality_fault (digits_of 6 39_258 ++ (replicate 45 32 ++ (field 30 glasgow ++ (replicate 35 32 ++ field 35 estate))))
    ≡ 117
unfolding set-computes
double-alone = refl
