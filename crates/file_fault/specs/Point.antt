-- The records of a point file between header and trailer.
-- Assumes nothing.
use Rattle.std.specs.Prelude.{ℕ, cond, List, [], ◌∷◌, eqb, get_or}
use Rattle.field.specs.Digits.{digits_fault}
use Rattle.field.specs.Text.{text_fault, filled_fault}
use Rattle.field_outward.specs.Outward.{outward_fault}
use Rattle.field_outward.specs.Inward.{inward_fault, suffix_fault}
use Rattle.file_record.specs.Names.Point
use Rattle.file_fault.specs.Fields.{Field, field, first, fault_in, one_of}

-- "date 8, time 6, outward 4, inward 3, suffix 2, postcode type 1, address key 8, organisation key 8, letter 1, record
-- type 1: 42 bytes"; the postcode type is S or L, the letter B, C, D or I
abbrev pub point_head : List Field
point_head =
    field 8 digits_fault
    ∷ field 6 digits_fault
    ∷ field 4 outward_fault
    ∷ field 3 inward_fault
    ∷ field 2 suffix_fault
    ∷ field 1 (one_of (83 ∷ 76 ∷ []))
    ∷ field 8 digits_fault
    ∷ field 8 digits_fault
    ∷ field 1 (one_of (66 ∷ 67 ∷ 68 ∷ 73 ∷ []))
    ∷ field 1 (one_of (49 ∷ 50 ∷ 51 ∷ []))
    ∷ []

-- "Type 1 goes on: locality key 8, thoroughfare 8, its descriptor 8, dependent thoroughfare 8, its descriptor 8, building
-- number 4, building name key 8, sub building name key 8, households 4, concatenation 1, PO box 6, small user indicator
-- 1, reason 2"; "Concatenation and indicator: Y or space"
abbrev pub view_fields : List Field
view_fields =
    field 8 digits_fault
    ∷ field 8 digits_fault
    ∷ field 8 digits_fault
    ∷ field 8 digits_fault
    ∷ field 8 digits_fault
    ∷ field 4 digits_fault
    ∷ field 8 digits_fault
    ∷ field 8 digits_fault
    ∷ field 4 digits_fault
    ∷ field 1 (one_of (89 ∷ 32 ∷ []))
    ∷ field 6 text_fault
    ∷ field 1 (one_of (89 ∷ 32 ∷ []))
    ∷ field 2 digits_fault
    ∷ []

-- "Types 2 (small user) and 3 (large user): organisation 60, department 60"; "a large user's name may be" blank
abbrev pub point_rest : ℕ → List Field
point_rest type =
    cond (eqb type 49) view_fields
    (cond (eqb type 50) (field 60 filled_fault ∷ field 60 text_fault ∷ [])
    (cond (eqb type 51) (field 60 text_fault ∷ field 60 text_fault ∷ [])
    []))

-- where a point record's first fault stands
unfoldable pub point_fault : List ℕ → ℕ
point_fault rec = first (fault_in 0 point_head rec) (fault_in Point.rest (point_rest (get_or rec Point.type 0)) rec)
