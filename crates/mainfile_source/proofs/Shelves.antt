-- The files of rows of an accepted set as shelves: the numbers of each never fall, and each tells the file's kind.
-- Assumes nothing.
use Prim.Native.Nat.{ℕ, zero, suc, ◌+◌, ◌-◌, ◌*◌, ◌/◌, ◌^◌, ◌≤◌, ◌<◌}
use mathlib.Core.Path.{◌≡◌, refl, sym, ap, subst, ◌∙◌}
use mathlib.Core.Bool.{Bool, true, false, cond}
use mathlib.Core.List.{List, [], ◌∷◌}
use native.Mathlib.Omega.{arith}
use native.Mathlib.Nat.{zero-add}
use borrow.Author.Tests.{ne_eqb, eqb-true, leb-true}
use lib.Dec.{eqb, leb}
use lib.ListN.{length}
use Rattle.field.specs.Test.{every}
use Rattle.field.specs.Digits.{digit, value}
use Rattle.field.specs.Text.{filled_fault, part}
use Rattle.field.proofs.Tests.{and_left, and_right}
use Rattle.field.proofs.Texts.{part-bound}
use Rattle.field.proofs.Values.{value-whole}
use Rattle.field.proofs.Fronts.{digits-below}
use Rattle.file_record.specs.Parts.{record_at}
use Rattle.file_record.proofs.Records.{part_length, record-length}
use Rattle.file_compare.specs.Order.{order}
use Rattle.file_compare.proofs.Digits.{digits-rise}
use Rattle.file_fault.specs.Fields.{field, key_fault}
use Rattle.file_fault.proofs.Passing.{key-pass, fields-pass}
use Rattle.mainfile_fault.specs.Faults.{locality_record, main_locality_fault, main_text_fault}
use Rattle.file.specs.Check.{Format, records, whole}
use Rattle.file.specs.Accepted.{Accepted}
use Rattle.file.specs.Mainfile.{main_file}
use Rattle.source.specs.Address.{ref}
use Rattle.shelf.specs.declared.Shelf.{Shelf}
use Rattle.shelf.specs.Shelf.{Fit, ref_at, last_of, row_of, NeverFalls}
use Rattle.shelf.specs.Stock.{stock_of, Good}
use Rattle.shelf.proofs.Stock.{stock-found, stock-good}
use Rattle.mainfile.specs.Set.{Set}
use Rattle.mainfile.specs.Rows.{row_shelf, shelf_of, file_of, kind_stock}
use Rattle.mainfile.specs.Accepted.{AcceptedRows}

-- ---- a file of rows

-- what the five shelves have in common
pub record Sized (kind width digits locality text : ℕ) : Type 0 where
  some : 1 ≤ width
  narrow : width ≤ 1_000
  kind-low : 1 ≤ kind
  kind-high : kind ≤ 5
  key_within : digits ≤ width
  eight : digits ≤ 8
  locality_small : locality ≤ 1_000
  text_small : text ≤ 1_000

module _ (kind width digits locality text : ℕ) (sized : Sized kind width digits locality text) where
  abbrev shelf : Shelf
  shelf = row_shelf kind width digits locality text

  row_fits : Fit shelf
  row_fits =
      record {
        some = sized.some;
        narrow = sized.narrow;
        key_within = omega (arith, sized.key_within);
        nine = omega (arith, sized.eight);
        base_small = omega (arith, sized.kind-high);
        letter_small = sized.narrow;
        locality_small = sized.locality_small;
        text_small = sized.text_small;
      }

  module _ (file : List ℕ) where
    abbrev key : ℕ → List ℕ
    key i = part (record_at width file i) 0 digits

    ref-is : (i : ℕ) → ref_at shelf file i ≡ kind * 100_000_000 + value (key i)
    unfolding ref_at
    ref-is i = rw (zero-add digits)

    -- a key has at most eight digits, whatever the bytes are
    key-small : (i : ℕ) → value (key i) < 100_000_000
    key-small i = digits-below 8 (key i) (omega arith) (omega (arith, part-bound (record_at width file i) 0 digits, sized.eight))

    -- so that its number tells its kind
    pub row-range : (i : ℕ) → (kind * 100_000_000 ≤ ref_at shelf file i) × (ref_at shelf file i < suc kind * 100_000_000)
    row-range i = (omega (arith, ref-is i), omega (arith, ref-is i, key-small i))

    -- and a number of another kind finds none
    pub row_other : (other key : ℕ) → key < 100_000_000 → (other ≡ kind → ⊥) → row_of shelf file (ref other key) ≡ 0
    row_other other key small n = by_row (row_of shelf file (ref other key)) refl
      where
        by_row : (q : ℕ) → row_of shelf file (ref other key) ≡ q → q ≡ 0
        by_row zero e = refl
        by_row (suc q) e =
            let is = (stock-found shelf file (ref other key) q e).1 in
            absurd (omega (arith, is, row-range (suc q), n))

    module _ (n : ℕ) (name : List ℕ) (fault : List ℕ → ℕ)
        (keyed : (rec : List ℕ) → fault rec ≡ 0 → every digit (part rec 0 digits) ≡ true)
        (t : Accepted (main_file n width name (λ rec. part rec 0 digits) fault) file) where
      key-length : (i : ℕ) → i < last_of shelf file → length (key i) ≡ digits
      key-length i h =
          let long = record-length width file i (omega arith) in
          omega (arith, part_length (record_at width file i) 0 digits (omega arith) (omega (arith, sized.key_within)))

      row-rises : NeverFalls shelf file
      row-rises = record { each = each }
        where
          each : (i : ℕ) → 1 ≤ i → suc i < last_of shelf file → ref_at shelf file i ≤ ref_at shelf file (suc i)
          each i p q =
              let fine = t.each (suc i) (omega arith) q in
              let this = key-length i (omega arith) in
              let next = key-length (suc i) q in
              let later : eqb (suc i) 1 ≡ false = ne_eqb (suc i) 1 (λ z. omega arith) in
              let back : suc i - 1 ≡ i = omega arith in
              let up = eqb-true (order (key (suc i)) (key i)) 2 (rw (later, back) at fine.rising) in
              let rise =
              digits-rise (key (suc i)) (key i) (next ∙ sym this) (keyed _ fine.well_formed)
              (keyed _ (t.each i p (omega arith)).well_formed) up in
              rw (
                ref-is i,
                ref-is (suc i),
                value-whole (key i) (omega (arith, sized.eight)),
                value-whole (key (suc i)) (omega (arith, sized.eight)),
              ) (omega (arith, rise))

      row-good : Good (stock_of shelf file)
      row-good =
          stock-good shelf file row-rises
          (λ i p q. omega (arith, ref-is i, sized.kind-low))
          (λ i p q. omega (arith, ref-is i, key-small i, sized.kind-high))

-- ---- the five

locality-keyed : (rec : List ℕ) → main_locality_fault rec ≡ 0 → every digit (part rec 0 6) ≡ true
unfolding main_locality_fault
locality-keyed rec e = key-pass (part rec 0 6) (fields-pass 0 (locality_record rec) rec e).0

text-keyed : (digits bytes : ℕ) (rec : List ℕ) → main_text_fault digits bytes rec ≡ 0 → every digit (part rec 0 digits) ≡ true
unfolding main_text_fault
text-keyed digits bytes rec e =
    key-pass (part rec 0 digits)
    (rw (zero-add digits) at (fields-pass 0 (field digits key_fault ∷ field bytes filled_fault ∷ []) rec e).0)

abbrev pub SizedShelf : ℕ → Shelf → Type 0
SizedShelf kind s = Sized kind s.width s.digits s.locality s.text

-- widths, digits and places are numbers, so that each of these is computed
pub sized-1 : SizedShelf 1 (shelf_of 1)
sized-1 =
    record {
      some = omega arith;
      narrow = omega arith;
      kind-low = omega arith;
      kind-high = omega arith;
      key_within = omega arith;
      eight = omega arith;
      locality_small = omega arith;
      text_small = omega arith;
    }

pub sized-2 : SizedShelf 2 (shelf_of 2)
sized-2 =
    record {
      some = omega arith;
      narrow = omega arith;
      kind-low = omega arith;
      kind-high = omega arith;
      key_within = omega arith;
      eight = omega arith;
      locality_small = omega arith;
      text_small = omega arith;
    }

pub sized-3 : SizedShelf 3 (shelf_of 3)
sized-3 =
    record {
      some = omega arith;
      narrow = omega arith;
      kind-low = omega arith;
      kind-high = omega arith;
      key_within = omega arith;
      eight = omega arith;
      locality_small = omega arith;
      text_small = omega arith;
    }

pub sized-4 : SizedShelf 4 (shelf_of 4)
sized-4 =
    record {
      some = omega arith;
      narrow = omega arith;
      kind-low = omega arith;
      kind-high = omega arith;
      key_within = omega arith;
      eight = omega arith;
      locality_small = omega arith;
      text_small = omega arith;
    }

pub sized-5 : SizedShelf 5 (shelf_of 5)
sized-5 =
    record {
      some = omega arith;
      narrow = omega arith;
      kind-low = omega arith;
      kind-high = omega arith;
      key_within = omega arith;
      eight = omega arith;
      locality_small = omega arith;
      text_small = omega arith;
    }

pub kind_fits : (kind : ℕ) → Fit (shelf_of kind)
kind_fits kind = by_tests (eqb kind 1) (eqb kind 2) (eqb kind 3) (eqb kind 4)
  where
    by_tests : (t u v w : Bool) → Fit (cond t (shelf_of 1) (cond u (shelf_of 2) (cond v (shelf_of 3) (cond w (shelf_of 4) (shelf_of 5)))))
    by_tests true u v w = row_fits 1 _ _ _ _ sized-1
    by_tests false true v w = row_fits 2 _ _ _ _ sized-2
    by_tests false false true w = row_fits 3 _ _ _ _ sized-3
    by_tests false false false true = row_fits 4 _ _ _ _ sized-4
    by_tests false false false false = row_fits 5 _ _ _ _ sized-5

-- ---- a set whose files of rows are accepted

module _ (s : Set) (ok : AcceptedRows s) where
  pub kind-never : (kind : ℕ) → NeverFalls (shelf_of kind) (file_of s kind)
  kind-never kind = by_tests (eqb kind 1) (eqb kind 2) (eqb kind 3) (eqb kind 4)
    where
      by_tests : (t u v w : Bool)
          → NeverFalls
          (cond t (shelf_of 1) (cond u (shelf_of 2) (cond v (shelf_of 3) (cond w (shelf_of 4) (shelf_of 5)))))
          (cond t (file_of s 1) (cond u (file_of s 2) (cond v (file_of s 3) (cond w (file_of s 4) (file_of s 5)))))
      by_tests true u v w =
          row-rises 1 _ _ _ _ sized-1 s.localities 1 _ main_locality_fault locality-keyed ok.localities
      by_tests false true v w =
          row-rises 2 _ _ _ _ sized-2 s.thoroughfares 2 _ (main_text_fault 8 60) (text-keyed 8 60) ok.thoroughfares
      by_tests false false true w =
          row-rises 3 _ _ _ _ sized-3 s.descriptors 3 _ (main_text_fault 4 20) (text-keyed 4 20) ok.descriptors
      by_tests false false false true =
          row-rises 4 _ _ _ _ sized-4 s.buildings 4 _ (main_text_fault 8 50) (text-keyed 8 50) ok.buildings
      by_tests false false false false =
          row-rises 5 _ _ _ _ sized-5 s.sub_buildings 5 _ (main_text_fault 8 30) (text-keyed 8 30) ok.sub_buildings

  pub good-1 : Good (kind_stock s 1)
  good-1 = row-good 1 _ _ _ _ sized-1 s.localities 1 _ main_locality_fault locality-keyed ok.localities

  pub good-2 : Good (kind_stock s 2)
  good-2 = row-good 2 _ _ _ _ sized-2 s.thoroughfares 2 _ (main_text_fault 8 60) (text-keyed 8 60) ok.thoroughfares

  pub good-3 : Good (kind_stock s 3)
  good-3 = row-good 3 _ _ _ _ sized-3 s.descriptors 3 _ (main_text_fault 4 20) (text-keyed 4 20) ok.descriptors

  pub good-4 : Good (kind_stock s 4)
  good-4 = row-good 4 _ _ _ _ sized-4 s.buildings 4 _ (main_text_fault 8 50) (text-keyed 8 50) ok.buildings

  pub good-5 : Good (kind_stock s 5)
  good-5 = row-good 5 _ _ _ _ sized-5 s.sub_buildings 5 _ (main_text_fault 8 30) (text-keyed 8 30) ok.sub_buildings
