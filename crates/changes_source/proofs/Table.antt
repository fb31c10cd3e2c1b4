-- An accepted table file as a shelf: the numbers of its records never fall, and each tells the type and the key.
-- Assumes nothing.
use Prim.Native.Nat.{ℕ, zero, suc, ◌+◌, ◌-◌, ◌^◌, ◌≤◌, ◌<◌}
use mathlib.Core.Path.{◌≡◌, refl, ap, ◌∙◌}
use mathlib.Core.Bool.{Bool, true, false, ◌||◌}
use mathlib.Core.List.{List, [], ◌∷◌}
use native.Mathlib.Omega.{arith}
use native.Mathlib.Nat.{zero-add}
use borrow.Author.Tests.{ne_eqb, eqb-true, le-leb}
use lib.Dec.{eqb}
use lib.ListN.{length, get_or}
use Rattle.field.specs.Test.{within, elem, every}
use Rattle.field.specs.Digits.{digit, digit_value, value}
use Rattle.field.specs.Text.{part}
use Rattle.field.proofs.Tests.{and_left, and_right, range-low, range-high}
use Rattle.field.proofs.Texts.{part-bound}
use Rattle.field.proofs.Values.{digit-again, value-whole, first-digit}
use Rattle.field.proofs.Fronts.{digits-below}
use Rattle.file_record.specs.Parts.{record_at}
use Rattle.file_record.proofs.Records.{part_length, record-length}
use Rattle.file_compare.specs.Order.{order}
use Rattle.file_compare.proofs.Order.{above-below, front_below, order-equal, order-bound, below-above}
use Rattle.file_compare.proofs.Digits.{digits-rise}
use Rattle.file_fault.specs.Table.{table_fault}
use Rattle.file_fault.proofs.Passing.{key-pass, table-passes, one_passes}
use Rattle.file.specs.Formats.{table_format}
use Rattle.file.specs.Accepted.{Accepted}
use Rattle.source.specs.Address.{ref, kind_of}
use Rattle.shelf.specs.Shelf.{Fit, ref_at, last_of, NeverFalls}
use Rattle.shelf.specs.Stock.{Good}
use Rattle.shelf.proofs.Stock.{stock-good}
use Rattle.changes_source.specs.Rows.{table_shelf, table_stock}

-- ---- one record

-- one of some bytes that are all in a range
elem-within : (low high b : ℕ) (bytes : List ℕ) → every (within low high) bytes ≡ true → elem b bytes ≡ true
    → within low high b ≡ true
elem-within low high b [] all e = let z : ◌≡◌ {A = ℕ} 0 1 = cc in absurd (omega arith)
elem-within low high b (x ∷ xs) all e =
    by-test (eqb b x) refl e
    (elem-within low high b xs (and_right (within low high x) (every (within low high) xs) all))
  where
    by-test : (t : Bool) → eqb b x ≡ t → t || elem b xs ≡ true → (elem b xs ≡ true → within low high b ≡ true)
        → within low high b ≡ true
    by-test true q e later =
        ap (within low high) (eqb-true b x q) ∙ and_left (within low high x) (every (within low high) xs) all
    by-test false q e later = later e

nine-first : (rec : List ℕ) → (length rec ≡ 0 → ⊥) → part rec 0 9 ≡ get_or rec 0 0 ∷ part rec 1 9
nine-first [] n = absurd (n refl)
nine-first (x ∷ xs) n = refl

-- type and key at a record's front
record Headed (rec : List ℕ) : Type 0 where
  type-low : 49 ≤ get_or rec 0 0
  type-high : get_or rec 0 0 ≤ 53
  digits : every digit (part rec 0 9) ≡ true
  size : length (part rec 0 9) ≡ 9
  is : value (part rec 0 9) ≡ ref (get_or rec 0 0 - 48) (value (part rec 1 9))

headed : (rec : List ℕ) → length rec ≡ 169 → table_fault rec ≡ 0 → Headed rec
headed rec long e =
    let head = (table-passes rec e).0 in
    let bytes : List ℕ = 49 ∷ 50 ∷ 51 ∷ 52 ∷ 53 ∷ [] in
    let type = elem-within 49 53 (get_or rec 0 0) bytes refl (one_passes bytes rec 0 head.0) in
    let low = range-low 49 53 (get_or rec 0 0) type in
    let high = range-high 49 53 (get_or rec 0 0) type in
    let key = key-pass (part rec 1 9) head.1.0 in
    let whole = nine-first rec (λ z. omega arith) in
    let eight : length (part rec 1 9) ≡ 8 = omega (arith, part_length rec 1 9 (omega arith) (omega arith)) in
    let digit-type : digit (get_or rec 0 0) ≡ true =
    simp (le-leb 48 (get_or rec 0 0) (omega arith), le-leb (get_or rec 0 0) 57 (omega arith)) in
    let power : 10 ^ length (part rec 1 9) ≡ 100_000_000 = ap (λ k. 10 ^ k) eight in
    let first : digit_value (get_or rec 0 0) ≡ get_or rec 0 0 - 48 = omega (arith, digit-again (get_or rec 0 0) digit-type) in
    record {
      type-low = low;
      type-high = high;
      digits = rw whole (simp (digit-type, key));
      size = rw whole (ap suc eight);
      is =
          rw whole
          (value-whole (get_or rec 0 0 ∷ part rec 1 9) (omega arith)
          ∙ (first-digit (get_or rec 0 0) (part rec 1 9) ∙ rw (power, first, value-whole (part rec 1 9) (omega arith))));
    }

-- ---- the records of a file

pub table_fits : Fit table_shelf
table_fits =
    record {
      some = omega arith;
      narrow = omega arith;
      key_within = omega arith;
      nine = omega arith;
      base_small = omega arith;
      letter_small = omega arith;
      locality_small = omega arith;
      text_small = omega arith;
    }

module _ (table : List ℕ) (t : Accepted table_format table) where
  module _ (i : ℕ) (low : 1 ≤ i) (high : i < last_of table_shelf table) where
    headed-at : Headed (record_at 169 table i)
    headed-at =
        headed (record_at 169 table i) (record-length 169 table i (omega arith)) (t.each i low high).well_formed

    ref-is : ref_at table_shelf table i ≡ ref (get_or (record_at 169 table i) 0 0 - 48) (value (part (record_at 169 table i) 1 9))
    unfolding ref_at
    ref-is = zero-add (value (part (record_at 169 table i) 0 9)) ∙ headed-at.is

    key-small : value (part (record_at 169 table i) 1 9) < 100_000_000
    key-small = digits-below 8 (part (record_at 169 table i) 1 9) (omega arith) (part-bound (record_at 169 table i) 1 9)

    -- its number tells its type
    pub type_at : get_or (record_at 169 table i) 0 0 ≡ 48 + kind_of (ref_at table_shelf table i)
    type_at = rw ref-is (omega (arith, key-small, headed-at.type-low))

    ref-low : 0 < ref_at table_shelf table i
    ref-low = omega (arith, ref-is, headed-at.type-low)

    ref-high : ref_at table_shelf table i < 600_000_000
    ref-high = omega (arith, ref-is, key-small, headed-at.type-high)

  -- 24 bytes rise, so that the first nine do not fall
  pub never-falls : NeverFalls table_shelf table
  unfolding ref_at
  never-falls = record { each = each }
    where
      each : (i : ℕ) → 1 ≤ i → suc i < last_of table_shelf table
          → ref_at table_shelf table i ≤ ref_at table_shelf table (suc i)
      each i p q = omega (arith, by_order (order a b) refl)
        where
          a : List ℕ
          a = part (record_at 169 table i) 0 9

          b : List ℕ
          b = part (record_at 169 table (suc i)) 0 9

          never : order a b ≡ 2 → ⊥
          never e =
              let fine = t.each (suc i) (omega arith) q in
              let later : eqb (suc i) 1 ≡ false = ne_eqb (suc i) 1 (λ z. omega arith) in
              let back : suc i - 1 ≡ i = omega arith in
              let up = rw (later, back) at fine.rising in
              let next = record_at 169 table (suc i) in
              let this = record_at 169 table i in
              omega (
                arith,
                front_below 9 24 next this (omega arith) (above-below a b e),
                eqb-true (order (part next 0 24) (part this 0 24)) 2 up,
              )

          at_i : Headed (record_at 169 table i)
          at_i = headed-at i p (omega arith)

          at_next : Headed (record_at 169 table (suc i))
          at_next = headed-at (suc i) (omega arith) q

          below : order a b ≡ 1 → value a < value b
          below e =
              rw (value-whole a (omega (arith, at_i.size)), value-whole b (omega (arith, at_next.size)))
              (digits-rise b a (omega (arith, at_i.size, at_next.size)) at_next.digits at_i.digits (below-above a b e))

          by_order : (n : ℕ) → order a b ≡ n → value a ≤ value b
          by_order zero e = omega (arith, ap value (order-equal a b e))
          by_order (suc zero) e = omega (arith, below e)
          by_order (suc (suc zero)) e = absurd (never e)
          by_order (suc (suc (suc n))) e = absurd (omega (arith, order-bound a b))

  pub table-good : Good (table_stock table)
  table-good = stock-good table_shelf table never-falls ref-low ref-high
