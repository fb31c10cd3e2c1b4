-- Laws of walks over good rows, and of the starts that are kept.
-- Assumes nothing.
use Prim.Native.Nat.{ℕ, zero, suc, ◌+◌, ◌*◌, ◌/◌, ◌≤◌, ◌<◌}
use mathlib.Core.Path.{◌≡◌, refl, sym, ap, ◌∙◌}
use mathlib.Core.Bool.{Bool, true, false}
use mathlib.Core.List.{List, [], ◌∷◌}
use native.Mathlib.Omega.{arith}
use Rattle.std.specs.Int.{div_ceil}
use Rattle.std.proofs.lemmas.Grind.{common_steps, div_ceil_times}
use native.Mathlib.Nat.{mul-le-mul_right, add-mul, one-mul, lt_of_mul-lt-mul_right, div-lt_iff_lt-mul, div-eq_of_lt-le}
use borrow.Author.Tests.{eqb-true, ne_eqb, ltb-true, ltb-false}
use lib.Dec.{eqb, ltb}
use lib.ListN.{length, get_or, set}
use lib.Seq.{get_or-set_same, get_or-set_other}
use Rattle.field.proofs.Tests.{and_left, and_right, or-false}
use Rattle.pack.specs.Opening.{Slot, slots_of, text_end, texts_end, row_kind, row_end, row_good, rows_good, is_start}
use Rattle.pack_rows.specs.Walks.{Tells, Cut, Starts}
use Rattle.pack_rows.proofs.RowLaws.{row_within}

module _ (rows : List ℕ) where
  -- a row ends behind its start
  texts-rise : (ss : List Slot) (at : ℕ) → at ≤ texts_end rows ss at
  texts-rise [] at = omega arith
  texts-rise (s ∷ ss) at = omega (arith, texts-rise ss (text_end rows at))

  pub row-rise : (at : ℕ) → at < row_end rows at
  row-rise at = omega (arith, texts-rise (slots_of (row_kind rows at)) (at + 1))

  -- no row starts before the first, and none behind the last
  none_before : (k at o : ℕ) → o < at → is_start rows k at o ≡ false
  none_before zero at o h = refl
  none_before (suc k) at o h =
      let rise = row-rise at in
      let rest = none_before k (row_end rows at) o (omega arith) in
      grind (arith, common_steps)

  module _ (k low at : ℕ) (good : rows_good rows (suc k) low at ≡ true) where
    first_good : row_good rows low at ≡ true
    first_good = and_left (row_good rows low at) _ good

    rest-good : rows_good rows k (row_kind rows at) (row_end rows at) ≡ true
    rest-good = and_right (row_good rows low at) _ good

    starts-within : at < length rows
    starts-within = omega (arith, row-rise at, row_within rows low at first_good)

  pub none-behind : (k low at o : ℕ) → rows_good rows k low at ≡ true → length rows ≤ o → is_start rows k at o ≡ false
  none-behind zero low at o good h = refl
  none-behind (suc k) low at o good h =
      let within = starts-within k low at good in
      let rest = none-behind k (row_kind rows at) (row_end rows at) o (rest-good k low at good) h in
      grind (arith, common_steps)

  -- the first row starts where the rows do
  pub first-start : (n : ℕ) → 0 < length rows → rows_good rows n 1 0 ≡ true → is_start rows n 0 0 ≡ true
  first-start zero h good = absurd (omega (arith, eqb-true 0 (length rows) good))
  first-start (suc n) h good = refl

  module _ (n o : ℕ) where
    pub tells-within : (at : ℕ) → Tells rows n o at → at ≤ length rows
    tells-within at t = by_left t.left t.good
      where
        by_left : (k : ℕ) → rows_good rows k t.low at ≡ true → at ≤ length rows
        by_left zero good = omega (arith, eqb-true at (length rows) good)
        by_left (suc k) good = omega (arith, starts-within k t.low at good)

    module _ (h : o < length rows) where
      -- one row more, its start being before o
      pub tells-next : (at : ℕ) → at < o → Tells rows n o at → Tells rows n o (row_end rows at)
      tells-next at l t = by_left t.left t.good t.same
        where
          by_left : (k : ℕ) → rows_good rows k t.low at ≡ true → is_start rows n 0 o ≡ is_start rows k at o
              → Tells rows n o (row_end rows at)
          by_left zero good same = absurd (omega (arith, eqb-true at (length rows) good))
          by_left (suc k) good same =
              record {
                left = k;
                low = row_kind rows at;
                good = rest-good k t.low at good;
                same = same ∙ simp (ne_eqb at o (λ e. absurd (omega arith)));
              }

      -- the first start that is not before o
      pub tells-here : (at : ℕ) → o ≤ at → Tells rows n o at → is_start rows n 0 o ≡ eqb at o
      tells-here at l t = t.same ∙ by_left t.left t.good
        where
          by_left : (k : ℕ) → rows_good rows k t.low at ≡ true → is_start rows k at o ≡ eqb at o
          by_left zero good =
              sym (ne_eqb at o (λ e. absurd (omega (arith, eqb-true at (length rows) good))))
          by_left (suc k) good =
              rw (none_before k (row_end rows at) o (omega (arith, row-rise at))) (or-false (eqb at o))

-- where the next stretch begins
pub next_place : (j width : ℕ) → (j + 1) * width ≡ j * width + width
next_place j width = add-mul j 1 width ∙ ap (j * width +◌) (one-mul width)

-- of so many stretches as cover n bytes, each begins before n
pub stretch-begins : (n width j : ℕ) → 0 < width → j < div_ceil n width → j * width < n
stretch-begins n width j some h =
    omega (
      arith,
      (div_ceil_times n width some).1,
      next_place j width,
      mul-le-mul_right {m = j + 1} {n = div_ceil n width} width (omega arith),
    )

-- an offset of the rows has a stretch
module _ (rows : List ℕ) (width : ℕ) (starts : List ℕ) (cut : Cut rows width starts) where
  pub stretch-within : (o : ℕ) → o < length rows → o / width < length starts
  stretch-within o h = (div-lt_iff_lt-mul cut.some).1 (omega (arith, cut.enough))

  pub place-within : (j : ℕ) → j * width < length rows → j < length starts
  place-within j h = lt_of_mul-lt-mul_right width (omega (arith, cut.enough))

-- starts kept up to a place, and a row start from which all offsets behind it are told
pub record Keeps (rows : List ℕ) (n width : ℕ) (starts : List ℕ) (at place : ℕ) : Type 0 where
  pub kept : (o : ℕ) → o < place → o < length rows → Tells rows n o (get_or starts (o / width) 0)
  pub ahead : (o : ℕ) → place ≤ o → o < length rows → Tells rows n o at

module _ (rows : List ℕ) (n width : ℕ) (starts : List ℕ) where
  pub keeps-last : (at place : ℕ) → length rows ≤ place → rows_good rows n 1 0 ≡ true → Keeps rows n width starts at place
      → Starts rows n width starts
  keeps-last at place l good k = record { good = good; tells = λ o h. k.kept o (omega arith) h }

  -- one stretch more
  pub keeps-next : (at next j : ℕ) → 0 < width → j < length starts → Keeps rows n width starts at (j * width)
      → ((o : ℕ) → j * width ≤ o → o < length rows → Tells rows n o next)
      → Keeps rows n width (set starts j next) next (j * width + width)
  keeps-next at next j some h k told =
      record { kept = λ o l w. by-test (ltb o (j * width)) o refl l w; ahead = λ o l w. told o (omega arith) w }
    where
      by-test : (t : Bool) (o : ℕ) → ltb o (j * width) ≡ t → o < j * width + width → o < length rows
          → Tells rows n o (get_or (set starts j next) (o / width) 0)
      by-test true o e l w =
          let below : o / width < j = (div-lt_iff_lt-mul some).1 (ltb-true o (j * width) e) in
          rw (get_or-set_other starts j (o / width) next 0 (λ e. absurd (omega arith)))
          (k.kept o (ltb-true o (j * width) e) w)
      by-test false o e l w =
          let here : o / width ≡ j = div-eq_of_lt-le width (ltb-false o (j * width) e) (rw (next_place j width) l) in
          rw (here, get_or-set_same starts j next 0 h) (told o (ltb-false o (j * width) e) w)
