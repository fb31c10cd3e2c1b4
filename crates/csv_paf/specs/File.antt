-- A file of CSV PAF: its rows and their fields, and when it is accepted (document 02, No. 8; the guide's chapter 20).
-- Assumes nothing.
use Rattle.std.specs.Prelude.{ℕ, zero, suc, ◌-◌, Bool, true, false, cond, not, ◌&&◌, ◌||◌, List, [], ◌∷◌, ◌++◌, eqb, leb, length, take, drop, get_or}
use Rattle.field.specs.Test.{within, every}
use Rattle.field.specs.Digits.{digit}
use Rattle.field.specs.Text.{blank, text_fault, filled_fault, from_end}
use Rattle.field_outward.specs.Outward.{outward_fault}
use Rattle.field_outward.specs.Inward.{inward_fault, suffix_fault}
use Rattle.file_compare.specs.Order.{same}
use Rattle.refusal.specs.declared.Reason.TheVariants.{BadRow, Uncarried}
use Rattle.refusal.specs.Verdict.{or_else}
use Rattle.std.specs.Prelude.{Ok, Err}
use Rattle.refusal.specs.Answer.{Answer, refusal}
use Rattle.refusal.specs.Verdict.{Verdict, fine}

-- ---- rows and fields

abbrev pub starts_with : ℕ → List ℕ → Bool
starts_with b [] = false
starts_with b (x ∷ xs) = eqb x b

-- "All records end with CR LF": whether a row ends at a byte, by what stands behind it; "a lone CR or LF belongs to its
-- field"
abbrev pub row_ends : ℕ → List ℕ → Bool
row_ends x xs = eqb x 13 && starts_with 10 xs

-- a byte more at the front of the first field
abbrev pub onto : ℕ → List (List ℕ) → List (List ℕ)
onto x [] = (x ∷ []) ∷ []
onto x (f ∷ fs) = (x ∷ f) ∷ fs

-- the fields of the row that begins here: "Only a comma, CR LF or the end of the file ends a field"
abbrev pub fields_of : List ℕ → List (List ℕ)
fields_of [] = [] ∷ []
fields_of (x ∷ xs) =
    cond (row_ends x xs) ([] ∷ []) (cond (eqb x 44) ([] ∷ fields_of xs) (onto x (fields_of xs)))

-- whether CR LF ends it, and not the end of the file
abbrev pub is_ended : List ℕ → Bool
is_ended [] = false
is_ended (x ∷ xs) = cond (row_ends x xs) true (is_ended xs)

-- what stands behind it
abbrev pub behind_row : List ℕ → List ℕ
behind_row [] = []
behind_row (x ∷ xs) = cond (row_ends x xs) (drop 1 xs) (behind_row xs)

-- the rows of a file, each as the bytes from its first on; there are no more rows than bytes
abbrev pub rows_from : (most : ℕ) → List ℕ → List (List ℕ)
rows_from zero bytes = []
rows_from (suc most) [] = []
rows_from (suc most) (x ∷ xs) = (x ∷ xs) ∷ rows_from most (behind_row (x ∷ xs))

unfoldable pub rows_of : List ℕ → List (List ℕ)
rows_of csv = rows_from (length csv) csv

-- ---- when a field is well formed

-- "Text fields as document 01's texts (trailing spaces are padding)"; "Post town not empty"
abbrev pub is_text : List ℕ → Bool
is_text f = eqb (text_fault f) 0

abbrev pub is_filled : List ℕ → Bool
is_filled f = eqb (filled_fault f) 0

-- "digits or empty"
abbrev pub is_number : List ℕ → Bool
is_number f = every digit f

-- an outward code without padding, as its four bytes
abbrev pub padded : List ℕ → List ℕ
padded o = take 4 (o ++ (32 ∷ 32 ∷ 32 ∷ 32 ∷ []))

abbrev pub is_outward : List ℕ → Bool
is_outward o = not (eqb (from_end o 1) 32) && eqb (outward_fault (padded o)) 0

-- "postcode (outward, space, inward; 8)"
abbrev pub outward_in : List ℕ → List ℕ
outward_in f = take (length f - 4) f

abbrev pub inward_in : List ℕ → List ℕ
inward_in f = drop (length f - 3) f

unfoldable pub is_postcode : List ℕ → Bool
is_postcode f =
    within 6 8 (length f)
    && (eqb (from_end f 4) 32 && (is_outward (outward_in f) && eqb (inward_fault (inward_in f)) 0))

-- "The Postcode type is 'S' for Small User and 'L' for Large Users"
abbrev pub is_type : List ℕ → Bool
is_type f = same f (83 ∷ []) || same f (76 ∷ [])

-- "indicator (Y, space or empty)"
abbrev pub is_indicator : List ℕ → Bool
is_indicator f = same f [] || (same f (32 ∷ []) || same f (89 ∷ []))

abbrev pub is_suffix : List ℕ → Bool
is_suffix f = eqb (suffix_fault f) 0

-- "a double dependent locality needs a dependent one"
abbrev pub double_form : (dependent : List ℕ) → List ℕ → Bool
double_form dependent f = cond (blank dependent) (blank f) (is_text f)

-- "A type S with a department and no organisation name is 14 at field 12"
abbrev pub organisation_form : (department type : List ℕ) → List ℕ → Bool
organisation_form department type f =
    cond (not (blank department) && same type (83 ∷ [])) (is_filled f) (is_text f)

-- what each of the sixteen fields has to be, in a row of these fields
abbrev pub forms_for : List (List ℕ) → List (List ℕ → Bool)
forms_for fs =
    is_postcode
    ∷ is_filled
    ∷ is_text
    ∷ double_form (get_or fs 2 [])
    ∷ is_text
    ∷ is_text
    ∷ is_number
    ∷ is_text
    ∷ is_text
    ∷ is_text
    ∷ is_text
    ∷ organisation_form (get_or fs 10 []) (get_or fs 13 [])
    ∷ is_number
    ∷ is_type
    ∷ is_indicator
    ∷ is_suffix
    ∷ []

-- ---- refusal 14

-- the first malformed field, counted on from n, 0 where there is none: "a row that ends before field i faults at field i,
-- anything but CR LF behind field 16 (a surplus field, or the last row without its end) at field 17"
abbrev pub field_fault : List (List ℕ → Bool) → ℕ → List (List ℕ) → (ended : Bool) → ℕ
field_fault [] n [] ended = cond ended 0 n
field_fault [] n (f ∷ fs) ended = n
field_fault (form ∷ forms) n [] ended = n
field_fault (form ∷ forms) n (f ∷ fs) ended = cond (form f) (field_fault forms (suc n) fs ended) n

unfoldable pub row_fault : List ℕ → ℕ
row_fault row = field_fault (forms_for (fields_of row)) 1 (fields_of row) (is_ended row)

-- "the first malformed field of the first such row", rows counted on from n
abbrev pub first_bad_row : ℕ → List (List ℕ) → Verdict
first_bad_row n [] = fine
first_bad_row n (row ∷ rows) =
    cond (eqb (row_fault row) 0) (first_bad_row (suc n) rows) (Err (BadRow n (row_fault row)))

-- ---- refusal 15

-- "MAX SIZE" of each field
abbrev pub widths : List ℕ
widths =
    8 ∷ 30 ∷ 35 ∷ 35 ∷ 80 ∷ 80 ∷ 4 ∷ 50 ∷ 30 ∷ 6 ∷ 60 ∷ 60 ∷ 8 ∷ 1 ∷ 1 ∷ 2 ∷ []

-- "a field longer than the guide allows (its trailing spaces counted ..), or with a double quote"
abbrev pub not_quote : ℕ → Bool
not_quote b = not (eqb b 34)

abbrev pub field_fits : ℕ → List ℕ → Bool
field_fits width f = leb (length f) width && every not_quote f

abbrev pub fields_fit : List ℕ → List (List ℕ) → Bool
fields_fit [] fs = true
fields_fit (w ∷ ws) [] = true
fields_fit (w ∷ ws) (f ∷ fs) = field_fits w f && fields_fit ws fs

unfoldable pub row_fits : List ℕ → Bool
row_fits row = fields_fit widths (fields_of row)

abbrev pub all_fit : List (List ℕ) → Bool
all_fit [] = true
all_fit (row ∷ rows) = row_fits row && all_fit rows

-- ---- the whole file

-- "14 of any row first, then 15 of any row"
abbrev pub rows_judged : List (List ℕ) → Verdict
rows_judged rows = or_else (first_bad_row 1 rows) (cond (all_fit rows) fine (Err Uncarried))

-- how many rows, or the refusal
abbrev pub judged_as : Verdict → ℕ → Answer
judged_as (Ok _) rows = Ok rows
judged_as (Err why) rows = refusal 0 why

-- "an empty file has none and is accepted"
unfoldable pub csv_judged : List ℕ → Answer
csv_judged csv = judged_as (rows_judged (rows_of csv)) (length (rows_of csv))
