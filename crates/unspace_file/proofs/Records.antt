-- The records of a rewritten file: those between the first and the last are as they were, and of these two every byte behind
-- the identifier.
-- Assumes nothing.
use Prim.Native.Nat.{ℕ, suc, ◌+◌, ◌-◌, ◌*◌, ◌/◌, ◌≤◌, ◌<◌}
use mathlib.Core.Path.{◌≡◌, refl, sym, ap, ◌∙◌}
use mathlib.Core.Bool.{Bool, true, false}
use mathlib.Core.List.{List}
use mathlib.Core.Logic.{inl, inr, ⊎_elim}
use native.Mathlib.Omega.{arith}
use native.Mathlib.Nat.{eq-or-lt_of_le, mul-le-mul_right, suc-mul}
use borrow.Author.Tests.{eqb-true, ltb-true, ltb-false}
use lib.Dec.{eqb, ltb}
use lib.ListN.{length, get_or, get_or-eq_default}
use lib.Seq.{get_or-take, get_or-drop}
use Rattle.field.specs.Text.{part}
use Rattle.field.proofs.Tests.{and_left}
use Rattle.file_record.specs.Parts.{record_at}
use Rattle.file_record.proofs.Records.{record-here, record-none, record-length}
use Rattle.unspace_file.specs.Unspaced.{whole_records, last_start, unspaced, Outside}
use Rattle.unspace_file.proofs.Laws.{same-part, unspaced-broken}
use Rattle.unspace_file.proofs.Kept.{length-unspaced, unspaced-outside}

module _ (width : ℕ) (l : List ℕ) (i : ℕ) (here : i < length l / width) where
  -- a byte of a record is a byte of its file
  pub record-byte : (j : ℕ) → j < width → get_or (record_at width l i) j 0 ≡ get_or l (i * width + j) 0
  record-byte j h =
      let low : j < i * width + width - i * width = omega arith in
      ap (λ (r : List ℕ). get_or r j 0) (record-here width l i here)
      ∙ (get_or-take (i * width + width - i * width) _ j 0 low ∙ get_or-drop (i * width) l j 0)

  record-past : (j : ℕ) → width ≤ j → get_or (record_at width l i) j 0 ≡ 0
  record-past j h = get_or-eq_default (record_at width l i) 0 (omega (arith, record-length width l i here))

module _ (width w : ℕ) (narrow : w ≤ width) (file : List ℕ) where
  abbrev new : List ℕ
  new = unspaced width w file

  abbrev n : ℕ
  n = length file / width

  pub as_many : length new / width ≡ n
  as_many = ap (λ (k : ℕ). k / width) (length-unspaced width w file)

  -- of a whole file: where a record stands
  module _ (whole : whole_records width w file ≡ true) (i : ℕ) (here : i < n) where
    all : n * width ≡ length file
    all = eqb-true (n * width) (length file) (and_left (eqb (n * width) (length file)) _ whole)

    before_last : suc i < n → i * width + width ≤ last_start width w file
    before_last h = omega (arith, suc-mul i width, suc-mul (suc i) width, mul-le-mul_right width h, all)

    pub at_last : suc i ≡ n → i * width ≡ last_start width w file
    at_last e = omega (arith, suc-mul i width, ap (λ (k : ℕ). k * width) e, all)

    behind : (j : ℕ) → w ≤ j → j < width → Outside width w file (i * width + j)
    behind j low high = (
      omega arith,
      ⊎_elim (λ (e : suc i ≡ n). inr (omega (arith, at_last e))) (λ (h : suc i < n). inl (omega (arith, before_last h)))
          (eq-or-lt_of_le here),
    )

    between : 1 ≤ i → suc i < n → (k : ℕ) → i * width ≤ k → k < i * width + width → Outside width w file k
    between low high k p q = (omega (arith, mul-le-mul_right width low), inl (omega (arith, before_last high)))

  -- every byte of a record behind an identifier
  pub record-like : (i j : ℕ) → w ≤ j → get_or (record_at width new i) j 0 ≡ get_or (record_at width file i) j 0
  record-like i j low = by-test (whole_records width w file) refl
    where
      by_place : whole_records width w file ≡ true → (t u : Bool) → ltb i n ≡ t → ltb j width ≡ u
          → get_or (record_at width new i) j 0 ≡ get_or (record_at width file i) j 0
      by_place whole true true e f =
          let here = ltb-true i n e in
          let high = ltb-true j width f in
          record-byte width new i (rw as_many here) j high
          ∙ (unspaced-outside width w file (i * width + j) (behind whole i here j low high)
          ∙ sym (record-byte width file i here j high))
      by_place whole true false e f =
          let here = ltb-true i n e in
          record-past width new i (rw as_many here) j (ltb-false j width f)
          ∙ sym (record-past width file i here j (ltb-false j width f))
      by_place whole false u e f =
          ap (λ (r : List ℕ). get_or r j 0)
          (record-none width new i (rw as_many (ltb-false i n e)) ∙ sym (record-none width file i (ltb-false i n e)))

      by-test : (t : Bool) → whole_records width w file ≡ t
          → get_or (record_at width new i) j 0 ≡ get_or (record_at width file i) j 0
      by-test true e = by_place e (ltb i n) (ltb j width) refl refl
      by-test false e = ap (λ (l : List ℕ). get_or (record_at width l i) j 0) (unspaced-broken width w file e)

  pub record-long : (i : ℕ) → length (record_at width new i) ≡ length (record_at width file i)
  record-long i = by-test (ltb i n) refl
    where
      by-test : (t : Bool) → ltb i n ≡ t → length (record_at width new i) ≡ length (record_at width file i)
      by-test true e =
          let here = ltb-true i n e in
          record-length width new i (rw as_many here) ∙ sym (record-length width file i here)
      by-test false e =
          ap length
          (record-none width new i (rw as_many (ltb-false i n e)) ∙ sym (record-none width file i (ltb-false i n e)))

  -- a part behind an identifier
  pub record-part-like : (i from to : ℕ) → w ≤ from
      → part (record_at width new i) from to ≡ part (record_at width file i) from to
  record-part-like i from to low =
      same-part (record_at width new i) (record_at width file i) from to (record-long i) (λ j p q. record-like i j (omega arith))

  -- a record between the first and the last
  pub record-middle : (i : ℕ) → 1 ≤ i → i < n - 1 → record_at width new i ≡ record_at width file i
  record-middle i low high = by-test (whole_records width w file) refl
    where
      by-test : (t : Bool) → whole_records width w file ≡ t → record_at width new i ≡ record_at width file i
      by-test true e =
          let here : i < n = omega arith in
          record-here width new i (rw as_many here)
          ∙ (same-part new file (i * width) (i * width + width) (length-unspaced width w file)
          (λ k p q. unspaced-outside width w file k (between e i here low (omega arith) k p q))
          ∙ sym (record-here width file i here))
      by-test false e = ap (λ (l : List ℕ). record_at width l i) (unspaced-broken width w file e)
