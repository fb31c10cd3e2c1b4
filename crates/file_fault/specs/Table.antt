-- The records of a table file between header and trailer.
-- Assumes nothing.
use Rattle.std.specs.Prelude.{ℕ, cond, not, ◌&&◌, List, [], ◌∷◌, eqb, get_or}
use Rattle.field.specs.Digits.{digits_fault}
use Rattle.field.specs.Text.{blank, text_fault, filled_fault, part}
use Rattle.file_record.specs.Names.Table
use Rattle.file_record.specs.Names.Locality
use Rattle.file_fault.specs.Fields.{Field, field, first, fault_in, unread, one_of, key_fault}

-- "type 1, key 8, date 8, time 6, letter 1, then by type"; the letter is B, C, D, I or a space
abbrev pub table_head : List Field
table_head =
    field 1 (one_of (49 ∷ 50 ∷ 51 ∷ 52 ∷ 53 ∷ []))
    ∷ field 8 key_fault
    ∷ field 8 digits_fault
    ∷ field 6 digits_fault
    ∷ field 1 (one_of (66 ∷ 67 ∷ 68 ∷ 73 ∷ 32 ∷ []))
    ∷ []

-- "A double dependent locality needs a dependent one"; without it the fault is at its first byte
unfoldable pub double_fault : List ℕ → List ℕ → ℕ
double_fault dependent s = cond (blank dependent && not (blank s)) 1 (text_fault s)

-- "filler 45, post town 30, dependent locality 35, double dependent locality 35"
abbrev pub locality_fields : List ℕ → List Field
locality_fields rec =
    field 45 unread
    ∷ field 30 filled_fault
    ∷ field 35 text_fault
    ∷ field 35 (double_fault (part rec Locality.dependent Locality.double))
    ∷ []

-- "2 thoroughfare: name 60; 3 descriptor: text 20; 4 building name: text 50; 5 sub building name: text 30"
abbrev pub table_rest : ℕ → List ℕ → List Field
table_rest type rec =
    cond (eqb type 49) (locality_fields rec)
    (cond (eqb type 50) (field 60 filled_fault ∷ [])
    (cond (eqb type 51) (field 20 filled_fault ∷ [])
    (cond (eqb type 52) (field 50 filled_fault ∷ [])
    (cond (eqb type 53) (field 30 filled_fault ∷ [])
    []))))

-- where the first fault of a table record stands
unfoldable pub table_fault : List ℕ → ℕ
table_fault rec = first (fault_in 0 table_head rec) (fault_in Table.text (table_rest (get_or rec Table.type 0) rec) rec)
