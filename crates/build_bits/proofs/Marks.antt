-- Laws of bits as a list of marks.
-- Assumes nothing.
use Prim.Native.Nat.{ℕ, zero, suc, ◌+◌, ◌*◌, ◌/◌, ◌≤◌, ◌<◌}
use mathlib.Core.Path.{◌≡◌, refl, sym, ap, ◌∙◌}
use mathlib.Core.Bool.{Bool, true, false, cond, not, ◌||◌}
use mathlib.Core.List.{List}
use native.Mathlib.Omega.{arith}
use native.Mathlib.Nat.{zero-add, div-lt_iff_lt-mul}
use borrow.Author.Tests.{ne_eqb, eqb-true, eqb-false}
use lib.Dec.{eqb}
use lib.ListN.{length, get_or, set, length-set}
use lib.Seq.{ext_get_or, get_or-set_same, get_or-set_other}
use Rattle.field.proofs.Tests.{or-false}
use Rattle.bits.specs.Bits.{marked}
use Rattle.build.specs.Plan.{mark_row}
use Rattle.build.specs.Rows.{is_marked}
use Rattle.build_bits.specs.Marks.{marks_from, bit_marks}

module _ (bits : List ℕ) where
  from-long : (k i : ℕ) → length (marks_from bits k i) ≡ k
  from-long zero i = refl
  from-long (suc k) i = ap suc (from-long k (suc i))

  from_at : (k i j : ℕ) → j < k → get_or (marks_from bits k i) j 0 ≡ cond (marked bits (i + j)) 1 0
  from_at zero i j h = absurd (omega arith)
  from_at (suc k) i zero h = ap (λ o. cond (marked bits o) 1 0) (let same : i ≡ i + 0 = omega arith in same)
  from_at (suc k) i (suc j) h =
      from_at k (suc i) j (omega arith)
      ∙ ap (λ o. cond (marked bits o) 1 0) (let same : suc i + j ≡ i + suc j = omega arith in same)

  module _ (n : ℕ) where
    pub bits-long : length (bit_marks bits n) ≡ n
    unfolding bit_marks
    bits-long = from-long n 0

    pub bits_at : (i : ℕ) → i < n → get_or (bit_marks bits n) i 0 ≡ cond (marked bits i) 1 0
    unfolding bit_marks
    bits_at i h = from_at n 0 i h ∙ ap (λ o. cond (marked bits o) 1 0) (zero-add i)

    -- a row is marked where its bit is set
    pub bits-marked : (i : ℕ) → i < n → is_marked (bit_marks bits n) i ≡ marked bits i
    bits-marked i h = ap (λ m. not (eqb m 0)) (bits_at i h) ∙ by-test (marked bits i)
      where
        by-test : (t : Bool) → not (eqb (cond t 1 0) 0) ≡ t
        by-test true = refl
        by-test false = refl

-- a row's bit set is the row marked
module _ (bits next : List ℕ) (row : ℕ)
    (is : (o : ℕ) → o / 32 < length bits → marked next o ≡ marked bits o || eqb row o) (n : ℕ)
    (room : n ≤ length bits * 32) where
  has-bit : (i : ℕ) → i < n → i / 32 < length bits
  has-bit i h = (div-lt_iff_lt-mul {k = 32} (omega arith)).1 (omega arith)

  same_at : (i : ℕ) → i < n → get_or (bit_marks next n) i 0 ≡ get_or (set (bit_marks bits n) row 1) i 0
  same_at i h = bits_at next n i h ∙ (ap (λ t. cond t 1 0) (is i (has-bit i h)) ∙ by-test (eqb row i) refl)
    where
      by-test : (t : Bool) → eqb row i ≡ t
          → cond (marked bits i || t) 1 0 ≡ get_or (set (bit_marks bits n) row 1) i 0
      by-test true e =
          let here = eqb-true row i e in
          let low : i < length (bit_marks bits n) = omega (arith, bits-long bits n, h) in
          or-true (marked bits i)
          ∙ sym (ap (λ j. get_or (set (bit_marks bits n) j 1) i 0) here ∙ get_or-set_same (bit_marks bits n) i 1 0 low)
        where
          or-true : (b : Bool) → ◌≡◌ {A = ℕ} (cond (b || true) 1 0) 1
          or-true true = refl
          or-true false = refl
      by-test false e =
          ap (λ t. cond t 1 0) (or-false (marked bits i))
          ∙ sym (get_or-set_other (bit_marks bits n) row i 1 0 (λ z. eqb-false row i e (sym z)) ∙ bits_at bits n i h)

  pub set-marks : (row ≡ 0 → ⊥) → bit_marks next n ≡ mark_row row (bit_marks bits n)
  set-marks some =
      rw (ne_eqb row 0 some)
      (ext_get_or 0 (bit_marks next n) (set (bit_marks bits n) row 1)
      (bits-long next n ∙ sym (length-set (bit_marks bits n) row 1 ∙ bits-long bits n))
      (λ i h. same_at i (omega (arith, bits-long next n, h))))
