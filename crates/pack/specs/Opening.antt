-- When a pack is accepted: "Pack check", step by step.
-- Assumes nothing.
use Rattle.std.specs.Prelude.{ℕ, zero, suc, ◌+◌, ◌-◌, ◌*◌, Bool, true, false, cond, not, ◌&&◌, ◌||◌, List, [], ◌∷◌, eqb, leb, length, take, get_or}
use Rattle.field.specs.Test.{elem, every}
use Rattle.field.specs.Text.{text_byte, text_fault, from_end, part}
use Rattle.file_compare.specs.Order.{same}
use Rattle.field_outward.specs.Outward.{outward_fault}
use Rattle.field_outward.specs.Inward.{inward_fault, suffix_fault}
use Rattle.refusal.specs.declared.Reason.TheVariants.{BadPack}
use Rattle.source.specs.Resolve.{forbidden_of}
use Rattle.label.specs.Lines.{is_empty}
use Rattle.pack.specs.Names.{known, has_suffix, has_counts, inward_at, postcode_width, suffix_at, suffix_width, type_at, address_key_at, organisation_key_at, building_number_at, concatenation_at, box_at, offsets_at, rest_at, point_width, absent, row_count_at, points_start_at, point_count_at, outward_at, length_at, counts_at, edition_width, trailer_width}
use Rattle.pack.specs.Numbers.{number_at}
use Rattle.pack.specs.Sectors.{sector_counts}
use Rattle.std.specs.Prelude.{Ok}
use Rattle.refusal.specs.Answer.{Answer, refusal}

-- ---- the trailer

-- "a trailer that points back": so many bytes before the end
abbrev pub from_back : List ℕ → ℕ → ℕ
from_back pack n = length pack - n

module _ (pack : List ℕ) where
  -- the last byte, whatever the edition
  abbrev pub edition : ℕ
  edition = get_or pack (from_back pack edition_width) 0

  -- where the trailer of that edition starts
  abbrev pub trailer_start : ℕ
  trailer_start = from_back pack (trailer_width edition)

  -- a number of the trailer, by its place there
  abbrev pub trailer_number : ℕ → ℕ
  trailer_number field = number_at pack (trailer_start + field) 4

  abbrev pub row_count : ℕ
  row_count = trailer_number row_count_at

  abbrev pub points_start : ℕ
  points_start = trailer_number points_start_at

  abbrev pub point_count : ℕ
  point_count = trailer_number point_count_at

  abbrev pub outward : List ℕ
  outward = part pack (trailer_start + outward_at) (trailer_start + length_at)

  abbrev pub length_said : ℕ
  length_said = trailer_number length_at

  -- "Step 1: at least 21 bytes, edition 1, length true, outward well formed, points start + 57 x point count + 21 equal to
  -- the length": of an edition that there is, 57 and 21 being its own; "Opening counts 59 in step 1" (No. 6); "61 bytes, both
  -- times that step 1 says 21" (No. 7)
  unfoldable pub trailer_good : Bool
  trailer_good =
      leb (trailer_width edition) (length pack)
      && (known edition
      && (eqb length_said (length pack)
      && (eqb (outward_fault outward) 0
      && eqb (points_start + point_width edition * point_count + trailer_width edition) (length pack))))

  -- the row area: "the bytes before points start"
  abbrev pub row_area : List ℕ
  row_area = take points_start pack

-- ---- the rows

-- a text of a row: how long it may be, and whether it may be empty
pub record Slot : Type 0 where
  pub width : ℕ
  pub may_be_empty : Bool

abbrev pub slot : ℕ → Bool → Slot
slot w e = record { width = w; may_be_empty = e }

-- the texts of a row by its type: "no longer than their fields", "empty only where blank is allowed above (type 6: both)"
abbrev pub slots_of : ℕ → List Slot
slots_of kind =
    cond (eqb kind 1) (slot 30 false ∷ slot 35 true ∷ slot 35 true ∷ [])
    (cond (eqb kind 2) (slot 60 false ∷ [])
    (cond (eqb kind 3) (slot 20 false ∷ [])
    (cond (eqb kind 4) (slot 50 false ∷ [])
    (cond (eqb kind 5) (slot 30 false ∷ [])
    (cond (eqb kind 6) (slot 60 true ∷ slot 60 true ∷ [])
    [])))))

-- "texts well formed, .. with no space at either end"
unfoldable pub text_good : Slot → List ℕ → Bool
text_good s t =
    leb (length t) s.width
    && (every text_byte t
    && (not (eqb (get_or t 0 0) 32) && (not (eqb (from_end t 1) 32) && (s.may_be_empty || not (is_empty t)))))

module _ (rows : List ℕ) where
  -- behind the text that starts at a place: "a length byte and its bytes"
  abbrev pub text_end : ℕ → ℕ
  text_end at = at + 1 + get_or rows at 0

  abbrev pub text_at : ℕ → List ℕ
  text_at at = part rows (at + 1) (text_end at)

  -- behind all texts of these slots
  abbrev pub texts_end : List Slot → ℕ → ℕ
  texts_end [] at = at
  texts_end (s ∷ ss) at = texts_end ss (text_end at)

  abbrev pub texts_good : List Slot → ℕ → Bool
  texts_good [] at = true
  texts_good (s ∷ ss) at = text_good s (text_at at) && texts_good ss (text_end at)

  -- where the n-th text of a row stands, counted from 0
  abbrev pub text_place : ℕ → ℕ → ℕ
  text_place zero at = at
  text_place (suc n) at = text_place n (text_end at)

  abbrev pub row_kind : ℕ → ℕ
  row_kind at = get_or rows at 0

  abbrev pub row_end : ℕ → ℕ
  row_end at = texts_end (slots_of (row_kind at)) (at + 1)

  -- the n-th text of the row that starts at a place
  abbrev pub row_text : ℕ → ℕ → List ℕ
  row_text at n = text_at (text_place n (at + 1))

  -- "a double dependent locality only with a dependent one"
  abbrev pub double_good : ℕ → Bool
  double_good at = not (eqb (row_kind at) 1) || (not (is_empty (row_text at 1)) || is_empty (row_text at 2))

  -- a row that starts at a place, its type not below the one before
  unfoldable pub row_good : ℕ → ℕ → Bool
  row_good low at =
      leb low (row_kind at)
      && (leb (row_kind at) 6
      && (leb (row_end at) (length rows) && (texts_good (slots_of (row_kind at)) (at + 1) && double_good at)))

  -- "exactly row-count rows, types 1 to 6 never falling": n rows from a place on
  abbrev pub rows_good : ℕ → ℕ → ℕ → Bool
  rows_good zero low at = eqb at (length rows)
  rows_good (suc n) low at = row_good low at && rows_good n (row_kind at) (row_end at)

  -- whether one of n rows from a place on starts at o
  abbrev pub is_start : ℕ → ℕ → ℕ → Bool
  is_start zero at o = false
  is_start (suc n) at o = eqb at o || is_start n (row_end at) o

  -- "every offset is absent or the start of a row of its type"
  unfoldable pub offset_good : ℕ → ℕ → ℕ → Bool
  offset_good n kind o = eqb o absent || (is_start n 0 o && eqb (row_kind o) kind)

-- "Step 2: the bytes before points start are exactly row-count rows"
unfoldable pub all_rows_good : List ℕ → Bool
all_rows_good pack = rows_good (row_area pack) (row_count pack) 1 0

-- ---- the points

-- the types of the rows that a point refers to, "(locality, thoroughfare, descriptor, dependent thoroughfare, its
-- descriptor, building name, sub building, organisation)"
abbrev pub offset_kinds : List ℕ
offset_kinds = 1 ∷ 2 ∷ 3 ∷ 2 ∷ 3 ∷ 4 ∷ 5 ∷ 6 ∷ []

-- the rest of the point at a place
abbrev pub rest_of : List ℕ → ℕ → ℕ
rest_of pack at = rest_at (edition pack) at

-- "postcode well formed in the trailer's code"
abbrev pub postcode_good : List ℕ → ℕ → Bool
postcode_good pack at =
    same (part pack at (at + inward_at)) (outward pack)
    && eqb (inward_fault (part pack (at + inward_at) (at + postcode_width))) 0

-- the suffix of the point at a place, of an edition that has one
abbrev pub suffix_in : List ℕ → ℕ → List ℕ
suffix_in pack at = part pack (at + suffix_at) (at + suffix_at + suffix_width)

-- "checks the suffix with the postcode in step 3"
unfoldable pub suffix_good : List ℕ → ℕ → Bool
suffix_good pack at = not (has_suffix (edition pack)) || eqb (suffix_fault (suffix_in pack at)) 0

-- what stands in the rest that starts at a place, in every edition alike
module _ (pack : List ℕ) (rest : ℕ) where
  -- the n-th offset, counted from 0
  abbrev pub offset_of_point : ℕ → ℕ
  offset_of_point n = number_at pack (rest + offsets_at + 4 * n) 4

  abbrev pub given : ℕ → Bool
  given n = not (eqb (offset_of_point n) absent)

  abbrev pub type_byte : ℕ
  type_byte = get_or pack (rest + type_at) 0

  abbrev pub organisation_key : ℕ
  organisation_key = number_at pack (rest + organisation_key_at) 4

  abbrev pub building_number : ℕ
  building_number = number_at pack (rest + building_number_at) 2

  -- "type, concatenation, PO box well formed; keys up to 99,999,999; number up to 9,999"
  unfoldable pub plain_good : Bool
  plain_good =
      elem type_byte (83 ∷ 76 ∷ [])
      && (leb (number_at pack (rest + address_key_at) 4) 99_999_999
      && (leb organisation_key 99_999_999
      && (leb building_number 9_999
      && (elem (get_or pack (rest + concatenation_at) 0) (89 ∷ 32 ∷ [])
      && eqb (text_fault (part pack (rest + box_at) (rest + offsets_at))) 0))))

  -- "every offset is absent or the start of a row of its type, locality present": the offsets from the n-th on
  abbrev pub offsets_good : ℕ → List ℕ → Bool
  offsets_good n [] = true
  offsets_good n (kind ∷ kinds) =
      offset_good (row_area pack) (row_count pack) kind (offset_of_point n) && offsets_good (suc n) kinds

  -- "rule 8 satisfied"
  unfoldable pub allowed_mix : Bool
  allowed_mix =
      eqb
      (forbidden_of (given 6) (given 5) (not (eqb building_number 0)) (given 1) (given 2) (given 3) (given 4))
      0

  -- "L has an organisation row, S has one with a name exactly when its organisation key is above zero, and otherwise none"
  unfoldable pub organisation_good : Bool
  organisation_good =
      cond (eqb type_byte 76) (given 7)
      (cond (eqb organisation_key 0) (not (given 7))
      (given 7 && not (is_empty (row_text (row_area pack) (offset_of_point 7) 0))))

-- a point whose rest starts at a place
unfoldable pub parts_good : List ℕ → ℕ → ℕ → Bool
parts_good pack at rest =
    offsets_good pack rest 0 offset_kinds
    && (given pack rest 0
    && (postcode_good pack at
    && (suffix_good pack at && (plain_good pack rest && (allowed_mix pack rest && organisation_good pack rest)))))

-- the same of a point of the pack's edition
abbrev pub point_good : List ℕ → ℕ → Bool
point_good pack at = parts_good pack at (rest_of pack at)

-- n points from a place on
abbrev pub points_good : List ℕ → ℕ → ℕ → Bool
points_good pack zero at = true
points_good pack (suc n) at = point_good pack at && points_good pack n (at + point_width (edition pack))

-- "Step 3"
unfoldable pub all_points_good : List ℕ → Bool
all_points_good pack = points_good pack (point_count pack) (points_start pack)

-- ---- the counts

-- the first byte of the inward code of n points of one width, from a place on
abbrev pub digits_from : List ℕ → (width n at : ℕ) → List ℕ
digits_from pack width zero at = []
digits_from pack width (suc n) at = get_or pack (at + inward_at) 0 ∷ digits_from pack width n (at + width)

-- of "all points"
abbrev pub point_digits : List ℕ → List ℕ
point_digits pack = digits_from pack (point_width (edition pack)) (point_count pack) (points_start pack)

-- the count of a digit, of an edition that has them
abbrev pub count_said : List ℕ → ℕ → ℕ
count_said pack digit = trailer_number pack (counts_at + 4 * digit)

-- the trailer says these counts, from a digit on
abbrev pub counts_said : List ℕ → ℕ → List ℕ → Bool
counts_said pack digit [] = true
counts_said pack digit (n ∷ ns) = eqb (count_said pack digit) n && counts_said pack (suc digit) ns

-- step 4: the answer "equals counting all points; opening checks this"
unfoldable pub all_counts_good : List ℕ → Bool
all_counts_good pack = not (has_counts (edition pack)) || counts_said pack 0 (sector_counts (point_digits pack))

-- "11, pack: 1 trailer; 2 rows; 3 points", "detail 4, after detail 3": how many points an accepted pack has, or the first step that fails
unfoldable pub opened : List ℕ → Answer
opened pack =
    cond (trailer_good pack)
    (cond (all_rows_good pack)
    (cond (all_points_good pack)
    (cond (all_counts_good pack) (Ok (point_count pack)) (refusal 0 (BadPack 4)))
    (refusal 0 (BadPack 3)))
    (refusal 0 (BadPack 2)))
    (refusal 0 (BadPack 1))
