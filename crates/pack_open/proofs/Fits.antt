-- None of the texts that a point of an opened pack is printed from is longer than its field, and each has bytes of a text
-- only; and how many points a pack can have.
-- Assumes nothing.
use Prim.Native.Nat.{ℕ, zero, suc, ◌+◌, ◌-◌, ◌*◌, ◌≤◌, ◌<◌}
use mathlib.Core.Path.{◌≡◌, refl, sym, subst}
use mathlib.Core.Bool.{Bool, true, false, cond, ◌||◌, true≢false}
use mathlib.Core.List.{List, [], ◌∷◌}
use native.Mathlib.Omega.{arith}
use borrow.Author.Tests.{leb-true, eqb-true, eqb-false, ne_eqb}
use lib.Dec.{eqb, leb, lit<}
use lib.ListN.{length, get_or}
use Rattle.field.specs.Test.{every}
use Rattle.field.specs.Text.{text_byte}
use Rattle.field.proofs.Tests.{and_left, and_right}
use Rattle.field.proofs.Texts.{part-bound}
use Rattle.field.proofs.Fronts.{text_in-bound}
use Rattle.label.specs.Widths.{Fits}
use Rattle.pack.specs.Names.{inward_at, postcode_width, box_at, offsets_at, point_width, absent, point_count_at}
use Rattle.pack.specs.Opening.{edition, trailer_start, row_count, points_start, point_count, row_area, Slot, slot, slots_of, text_good, text_end, text_at, texts_good, text_place, row_kind, row_end, row_text, row_good, rows_good, is_start, offset_good, all_rows_good, offset_kinds, rest_of, offset_of_point, offsets_good, parts_good, point_good, points_good, all_points_good, opened}
use Rattle.pack.specs.Points.{offset_text, elements_from, elements_at, point_place}
use Rattle.pack_read.proofs.Numbers.{number-at-below}
use Rattle.pack_open.proofs.Opened.{opened-all}
use Rattle.std.specs.Prelude.{Ok}

-- ---- rows

-- "no longer than their fields"
text-fits : (s : Slot) (t : List ℕ) → text_good s t ≡ true → length t ≤ s.width
unfolding text_good
text-fits s t good = leb-true (length t) s.width (and_left (leb (length t) s.width) _ good)

-- "texts well formed"
pub text-bytes : (s : Slot) (t : List ℕ) → text_good s t ≡ true → every text_byte t ≡ true
unfolding text_good
text-bytes s t good = and_left (every text_byte t) _ (and_right (leb (length t) s.width) _ good)

-- the slot of the n-th of these texts, and how long it may be
abbrev slot_at : List Slot → ℕ → Slot
slot_at ss n = get_or ss n (slot 0 true)

abbrev widest : List Slot → ℕ → ℕ
widest ss n = (slot_at ss n).width

module _ (rows : List ℕ) where
  nth-good : (ss : List Slot) (at n : ℕ) → texts_good rows ss at ≡ true → n < length ss
      → text_good (slot_at ss n) (text_at rows (text_place rows n at)) ≡ true
  nth-good [] at n good h = absurd (omega arith)
  nth-good (s ∷ ss) at zero good h = and_left (text_good s (text_at rows at)) _ good
  nth-good (s ∷ ss) at (suc n) good h =
      nth-good ss (text_end rows at) n (and_right (text_good s (text_at rows at)) _ good) (omega arith)

  row-texts : (low at : ℕ) → row_good rows low at ≡ true → texts_good rows (slots_of (row_kind rows at)) (at + 1) ≡ true
  unfolding row_good
  row-texts low at good =
      and_left (texts_good rows (slots_of (row_kind rows at)) (at + 1)) _
      (and_right (leb (row_end rows at) (length rows)) _
      (and_right (leb (row_kind rows at) 6) _ (and_right (leb low (row_kind rows at)) _ good)))

  -- a start of good rows is that of a good one
  start-texts : (n low at o : ℕ) → rows_good rows n low at ≡ true → is_start rows n at o ≡ true
      → texts_good rows (slots_of (row_kind rows o)) (o + 1) ≡ true
  start-texts zero low at o good starts = absurd (true≢false (sym starts))
  start-texts (suc n) low at o good starts =
      by-test (eqb at o) refl starts
      (start-texts n (row_kind rows at) (row_end rows at) o (and_right (row_good rows low at) _ good))
    where
      by-test : (t : Bool) → eqb at o ≡ t → t || is_start rows n (row_end rows at) o ≡ true
          → (is_start rows n (row_end rows at) o ≡ true → texts_good rows (slots_of (row_kind rows o)) (o + 1) ≡ true)
          → texts_good rows (slots_of (row_kind rows o)) (o + 1) ≡ true
      by-test true e starts later =
          subst (λ (o : ℕ). texts_good rows (slots_of (row_kind rows o)) (o + 1) ≡ true) (eqb-true at o e)
          (row-texts low at (and_left (row_good rows low at) _ good))
      by-test false e starts later = later starts

-- the texts of the row that an offset gives, or none
module _ (pack : List ℕ) (rows : all_rows_good pack ≡ true) (rest n kind : ℕ)
    (good : offset_good (row_area pack) (row_count pack) kind (offset_of_point pack rest n) ≡ true) where
  abbrev area : List ℕ
  area = row_area pack

  abbrev offset : ℕ
  offset = offset_of_point pack rest n

  offset-texts : (offset ≡ absent → ⊥) → texts_good area (slots_of kind) (offset + 1) ≡ true
  unfolding offset_good all_rows_good
  offset-texts given =
      let there = simp (ne_eqb offset absent given) at good in
      rw (eqb-true (row_kind area offset) kind (and_right (is_start area (row_count pack) 0 offset) _ there)) at
      (start-texts area (row_count pack) 1 0 offset rows (and_left _ (eqb (row_kind area offset) kind) there))

  module _ (which : ℕ) (h : which < length (slots_of kind)) where
    row-good : (offset ≡ absent → ⊥) → text_good (slot_at (slots_of kind) which) (row_text area offset which) ≡ true
    row-good given = nth-good area (slots_of kind) (offset + 1) which (offset-texts given) h

    offset-fits : length (offset_text pack rest n which) ≤ widest (slots_of kind) which
    offset-fits = by-test (eqb offset absent) refl
      where
        by-test : (t : Bool) → eqb offset absent ≡ t
            → length (cond t [] (row_text area offset which)) ≤ widest (slots_of kind) which
        by-test true e = omega arith
        by-test false e = text-fits (slot_at (slots_of kind) which) _ (row-good (eqb-false offset absent e))

    pub offset-bytes : every text_byte (offset_text pack rest n which) ≡ true
    offset-bytes = by-test (eqb offset absent) refl
      where
        by-test : (t : Bool) → eqb offset absent ≡ t → every text_byte (cond t [] (row_text area offset which)) ≡ true
        by-test true e = refl
        by-test false e = text-bytes (slot_at (slots_of kind) which) _ (row-good (eqb-false offset absent e))

-- ---- points

-- a point whose parts are good
module _ (pack : List ℕ) (rows : all_rows_good pack ≡ true) (at rest : ℕ) (good : parts_good pack at rest ≡ true) where
  -- the offsets from the n-th on, each of its kind
  abbrev pub Offsets : ℕ → List ℕ → Type 0
  Offsets n [] = Unit {0}
  Offsets n (kind ∷ kinds) =
      (offset_good (row_area pack) (row_count pack) kind (offset_of_point pack rest n) ≡ true) × Offsets (suc n) kinds

  offsets : (n : ℕ) (kinds : List ℕ) → offsets_good pack rest n kinds ≡ true → Offsets n kinds
  offsets n [] good = tt
  offsets n (kind ∷ kinds) good =
      let here = offset_good (row_area pack) (row_count pack) kind (offset_of_point pack rest n) in
      (and_left here (offsets_good pack rest (suc n) kinds) good, offsets (suc n) kinds (and_right here _ good))

  pub all-offsets : Offsets 0 offset_kinds
  unfolding parts_good
  all-offsets = offsets 0 offset_kinds (and_left (offsets_good pack rest 0 offset_kinds) _ good)

  parts-fit : Fits (elements_from pack at rest)
  unfolding elements_from
  parts-fit =
      let o = all-offsets in
      record {
        organisation = offset-fits pack rows rest 7 6 o.1.1.1.1.1.1.1.0 0 (lit< tt);
        department = offset-fits pack rows rest 7 6 o.1.1.1.1.1.1.1.0 1 (lit< tt);
        box = omega (arith, text_in-bound pack (rest + box_at) (rest + offsets_at));
        sub_building = offset-fits pack rows rest 6 5 o.1.1.1.1.1.1.0 0 (lit< tt);
        building = offset-fits pack rows rest 5 4 o.1.1.1.1.1.0 0 (lit< tt);
        dependent = offset-fits pack rows rest 3 2 o.1.1.1.0 0 (lit< tt);
        dependent_descriptor = offset-fits pack rows rest 4 3 o.1.1.1.1.0 0 (lit< tt);
        thoroughfare = offset-fits pack rows rest 1 2 o.1.0 0 (lit< tt);
        descriptor = offset-fits pack rows rest 2 3 o.1.1.0 0 (lit< tt);
        double_locality = offset-fits pack rows rest 0 1 o.0 2 (lit< tt);
        dependent_locality = offset-fits pack rows rest 0 1 o.0 1 (lit< tt);
        town = offset-fits pack rows rest 0 1 o.0 0 (lit< tt);
        outward = omega (arith, text_in-bound pack at (at + inward_at));
        inward = omega (arith, part-bound pack (at + inward_at) (at + postcode_width));
      }

-- each of n good points
each-point : (pack : List ℕ) (n at i : ℕ) → points_good pack n at ≡ true → i < n
    → point_good pack (at + point_width (edition pack) * i) ≡ true
each-point pack zero at i good h = absurd (omega arith)
each-point pack (suc n) at zero good h =
    rw (let z : at + point_width (edition pack) * 0 ≡ at = omega arith in z) (and_left (point_good pack at) _ good)
each-point pack (suc n) at (suc i) good h =
    let w = point_width (edition pack) in
    rw (let z : at + w * suc i ≡ at + w + w * i = omega arith in z)
    (each-point pack n (at + w) i (and_right (point_good pack at) _ good) (omega arith))

-- the k-th point of a pack that opens, counted from 1
module _ (pack : List ℕ) (n k : ℕ) (opens : opened pack ≡ Ok n) (low : 1 ≤ k) (high : k ≤ n) where
  pub point-good : point_good pack (point_place pack k) ≡ true
  unfolding all_points_good
  point-good =
      let is = opened-all pack n opens in
      each-point pack (point_count pack) (points_start pack) (k - 1) is.points (omega (arith, is.counted))

  pub point-fits : Fits (elements_at pack (point_place pack k))
  point-fits =
      let place = point_place pack k in
      parts-fit pack (opened-all pack n opens).rows place (rest_of pack place) point-good

-- a number of four bytes says how many points there are
pub points_few : (pack : List ℕ) → ((i : ℕ) → get_or pack i 0 < 256) → point_count pack < 4_294_967_296
points_few pack bytes = number-at-below pack (trailer_start pack + point_count_at) 4 bytes
