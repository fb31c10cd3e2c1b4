-- Walks over the marked rows of a shelf, one after the other: rows that are not marked are passed, and have no bytes.
-- Assumes nothing.
use Prim.Native.Nat.{ℕ, zero, suc, ◌+◌, ◌*◌, ◌-◌, ◌≤◌, ◌<◌, min}
use mathlib.Core.Path.{◌≡◌, refl, sym, ap, ◌∙◌}
use mathlib.Core.Bool.{Bool, true, false, cond}
use mathlib.Core.List.{List, [], ◌++◌}
use native.Mathlib.Omega.{arith}
use borrow.Author.Tests.{leb-true, leb-false}
use lib.Dec.{leb}
use lib.ListN.{length, get_or}
use Rattle.bits.specs.Bits.{next_marked}
use Rattle.bits.proofs.Next.{Next, next-is, next-end}
use Rattle.shelf.specs.Stock.{Stock}
use Rattle.build.specs.Rows.{row_bytes_at, is_marked, bytes_to, count_to}
use Rattle.build.specs.Bytes.{used_rows}
use Rattle.build.proofs.Laws.{rows_left, rows_step, rows_end}
use Rattle.build_bits.specs.Marks.{bit_marks}
use Rattle.build_bits.proofs.Marks.{bits-marked}

-- ---- rows without a mark

module _ (st : Stock) (marks : List ℕ) where
  module _ (i : ℕ) (low : 1 ≤ i) (none : is_marked marks i ≡ false) where
    back : i + 1 - 1 ≡ suc (i - 1)
    back = omega arith

    forth : suc (i - 1) ≡ i
    forth = omega arith

    bytes-none : bytes_to st marks (i + 1 - 1) ≡ bytes_to st marks (i - 1)
    bytes-none = rw back (rw forth (ap (λ t. bytes_to st marks (i - 1) + cond t (length (row_bytes_at st i)) 0) none ∙ omega arith))

    count_none : count_to marks (i + 1 - 1) ≡ count_to marks (i - 1)
    count_none = rw back (rw forth (ap (λ t. count_to marks (i - 1) + cond t 1 0) none ∙ omega arith))

    left-none : i < st.last → rows_left st marks i ≡ rows_left st marks (i + 1)
    left-none h = rows_step st marks i h ∙ ap (λ t. cond t (row_bytes_at st i) [] ++ rows_left st marks (i + 1)) none

  -- k of them from i on
  abbrev NoneIn : ℕ → ℕ → Type 0
  NoneIn k i = (o : ℕ) → i ≤ o → o < i + k → is_marked marks o ≡ false

  bytes-pass : (k i : ℕ) → 1 ≤ i → NoneIn k i → bytes_to st marks (i + k - 1) ≡ bytes_to st marks (i - 1)
  bytes-pass zero i low none = ap (bytes_to st marks) (let same : i + 0 - 1 ≡ i - 1 = omega arith in same)
  bytes-pass (suc k) i low none =
      ap (bytes_to st marks) (let same : i + suc k - 1 ≡ i + 1 + k - 1 = omega arith in same)
      ∙ (bytes-pass k (i + 1) (omega arith) (λ o p q. none o (omega arith) (omega arith))
      ∙ bytes-none i low (none i (omega arith) (omega arith)))

  count-pass : (k i : ℕ) → 1 ≤ i → NoneIn k i → count_to marks (i + k - 1) ≡ count_to marks (i - 1)
  count-pass zero i low none = ap (count_to marks) (let same : i + 0 - 1 ≡ i - 1 = omega arith in same)
  count-pass (suc k) i low none =
      ap (count_to marks) (let same : i + suc k - 1 ≡ i + 1 + k - 1 = omega arith in same)
      ∙ (count-pass k (i + 1) (omega arith) (λ o p q. none o (omega arith) (omega arith))
      ∙ count_none i low (none i (omega arith) (omega arith)))

  left-pass : (k i : ℕ) → 1 ≤ i → i + k ≤ st.last → NoneIn k i → rows_left st marks i ≡ rows_left st marks (i + k)
  left-pass zero i low h none = ap (rows_left st marks) (let same : i ≡ i + 0 = omega arith in same)
  left-pass (suc k) i low h none =
      left-none i low (none i (omega arith) (omega arith)) (omega arith)
      ∙ (left-pass k (i + 1) (omega arith) (omega arith) (λ o p q. none o (omega arith) (omega arith))
      ∙ ap (rows_left st marks) (let same : i + 1 + k ≡ i + suc k = omega arith in same))

-- ---- a walk from one marked row to the next

-- the rows before i, from one on, have been counted
pub record Walked (st : Stock) (marks : List ℕ) (from i rows bytes : ℕ) : Type 0 where
  pub low : from ≤ i
  pub count : count_to marks (from - 1) + rows ≡ count_to marks (i - 1)
  pub size : bytes_to st marks (from - 1) + bytes ≡ bytes_to st marks (i - 1)
  pub few : rows ≤ i - from
  pub short : bytes ≤ 104 * (i - from)

pub walked_start : (st : Stock) (marks : List ℕ) (from : ℕ) → Walked st marks from from 0 0
walked_start st marks from =
    record { low = omega arith; count = omega arith; size = omega arith; few = omega arith; short = omega arith }

module _ {st : Stock} {marks : List ℕ} {from i rows bytes : ℕ} (some : 1 ≤ from) (w : Walked st marks from i rows bytes)
  where
    -- a marked row counted
    pub walked_row : (len : ℕ) → is_marked marks i ≡ true → len ≡ length (row_bytes_at st i) → len ≤ 104
        → Walked st marks from (i + 1) (rows + 1) (bytes + len)
    walked_row len m e small =
        let back : i + 1 - 1 ≡ suc (i - 1) = omega (arith, w.low) in
        let forth : suc (i - 1) ≡ i = omega (arith, w.low) in
        let one : count_to marks (i + 1 - 1) ≡ count_to marks (i - 1) + 1 =
        rw back (rw forth (ap {B = ℕ} (λ t. count_to marks (i - 1) + cond t 1 0) m)) in
        let long : bytes_to st marks (i + 1 - 1) ≡ bytes_to st marks (i - 1) + length (row_bytes_at st i) =
        rw back (rw forth (ap {B = ℕ} (λ t. bytes_to st marks (i - 1) + cond t (length (row_bytes_at st i)) 0) m)) in
        record {
          low = omega (arith, w.low);
          count = omega (arith, w.count, one);
          size = omega (arith, w.size, long, e);
          few = omega (arith, w.few, w.low);
          short = omega (arith, w.short, w.low, small);
        }

    -- those up to the next marked one passed
    pub walked-pass : (j : ℕ) → i ≤ j → ((o : ℕ) → i ≤ o → o < j → is_marked marks o ≡ false)
        → Walked st marks from j rows bytes
    walked-pass j h none =
        let place : i + (j - i) ≡ j = omega arith in
        let no : (o : ℕ) → i ≤ o → o < i + (j - i) → is_marked marks o ≡ false = λ o p q. none o p (omega (arith, place)) in
        record {
          low = omega (arith, w.low);
          count =
              w.count
              ∙ (sym (count-pass st marks (j - i) i (omega (arith, w.low)) no) ∙ ap (λ n. count_to marks (n - 1)) place);
          size =
              w.size
              ∙ (sym (bytes-pass st marks (j - i) i (omega (arith, w.low)) no) ∙ ap (λ n. bytes_to st marks (n - 1)) place);
          few = omega (arith, w.few);
          short = omega (arith, w.short);
        }

-- ---- the same by bits

module _ (st : Stock) (bits : List ℕ) where
  abbrev marks : List ℕ
  marks = bit_marks bits st.last

  module _ (i to : ℕ) (h : i ≤ to) (high : to ≤ st.last) where
    abbrev next : ℕ
    next = next_marked bits i to

    is-next : Next bits i to next
    is-next = next-is bits i to h

    none_before : (o : ℕ) → i ≤ o → o < next → is_marked marks o ≡ false
    none_before o p q =
        bits-marked bits st.last o (omega (arith, is-next.high)) ∙ is-next.none o p q

    pub next-walked : {from rows bytes : ℕ} → 1 ≤ from → Walked st marks from i rows bytes
        → Walked st marks from next rows bytes
    next-walked some w = walked-pass some w next is-next.low none_before

    pub next-left : 1 ≤ i → rows_left st marks i ≡ rows_left st marks next
    next-left low =
        let place : i + (next - i) ≡ next = omega (arith, is-next.low) in
        left-pass st marks (next - i) i low (omega (arith, place, is-next.high))
        (λ o p q. none_before o p (omega (arith, place)))
        ∙ ap (rows_left st marks) place

    pub next-marked : next < to → is_marked marks next ≡ true
    next-marked l = bits-marked bits st.last next (omega arith) ∙ is-next.some l

    pub next_low : i ≤ next
    next_low = is-next.low

    pub next-high : next ≤ to
    next-high = is-next.high

  -- a marked row is written, and then those behind it
  pub row-left : (i : ℕ) → i < st.last → is_marked marks i ≡ true
      → rows_left st marks i ≡ row_bytes_at st i ++ rows_left st marks (i + 1)
  row-left i h m = rows_step st marks i h ∙ ap (λ t. cond t (row_bytes_at st i) [] ++ rows_left st marks (i + 1)) m

  -- the first marked row of all
  abbrev first : ℕ
  first = next_marked bits 1 st.last

  pub first-left : used_rows st marks ≡ rows_left st marks first
  first-left = by-test (leb st.last 1) refl
    where
      by-test : (t : Bool) → leb st.last 1 ≡ t → rows_left st marks 1 ≡ rows_left st marks first
      by-test true e =
          let few = leb-true st.last 1 e in
          rows_end st marks 1 few ∙ sym (rows_end st marks first (omega (arith, next-end bits st.last 1 few)))
      by-test false e =
          let some = leb-false st.last 1 e in
          next-left 1 st.last (omega (arith, some)) (omega arith) (omega arith)

  pub first_some : first < st.last → (1 ≤ first) × (is_marked marks first ≡ true)
  first_some h = by-test (leb st.last 1) refl
    where
      by-test : (t : Bool) → leb st.last 1 ≡ t → (1 ≤ first) × (is_marked marks first ≡ true)
      by-test true e = absurd (omega (arith, next-end bits st.last 1 (leb-true st.last 1 e)))
      by-test false e =
          let some : 1 ≤ st.last = omega (arith, leb-false st.last 1 e) in
          (next_low 1 st.last some (omega arith), next-marked 1 st.last some (omega arith) h)

-- ---- blocks

-- the blocks before k have their starts, and the rows before `from`, block k's first, are counted
pub record Filling (st : Stock) (marks : List ℕ) (start : ℕ) (blocks : List ℕ) (rows bytes from k : ℕ) : Type 0 where
  pub place : from ≡ 64 * k + 1
  pub count : rows ≡ count_to marks (min from st.last - 1)
  pub size : bytes ≡ bytes_to st marks (min from st.last - 1)
  pub few : rows ≤ from
  pub short : bytes ≤ 104 * from
  pub each : (j : ℕ) → 0 ≤ j → j < k → get_or blocks j 0 ≡ start + bytes_to st marks (64 * j)
