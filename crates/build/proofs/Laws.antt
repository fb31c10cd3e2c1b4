-- Laws of the rows that are marked: their bytes, where they stand, and that they are written one after the other.
-- Assumes nothing.
use Prim.Native.Nat.{ℕ, suc, ◌+◌, ◌-◌, ◌≤◌, ◌<◌}
use mathlib.Core.Path.{◌≡◌, refl, ap, ◌∙◌}
use mathlib.Core.Bool.{Bool, true, false, cond, not}
use mathlib.Core.List.{List, [], ◌∷◌, ◌++◌}
use native.Mathlib.Omega.{arith}
use native.Mathlib.Nat.{le_refl}
use native.Mathlib.Numerals.{add-one}
use borrow.Author.Tests.{eq-eqb, ne_eqb, eqb-true, eqb-false}
use lib.Dec.{eqb}
use lib.ListN.{length, get_or, set, length-append, length-set}
use lib.Seq.{get_or-set_same, get_or-set_other}
use Rattle.field.specs.Text.{text_in}
use Rattle.source.specs.Address.{kind_of}
use Rattle.shelf.specs.declared.Shelf.{Shelf}
use Rattle.shelf.specs.Shelf.{text_width, record_of, ref_at, texts_at}
use Rattle.shelf.specs.Stock.{Stock, stock_of}
use Rattle.pack.specs.Layout.{texts_bytes}
use Rattle.build.specs.Plan.{organisation_bytes}
use Rattle.build.specs.Rows.{row_bytes_at, is_marked, size_at, bytes_to, count_to, rows_from}
use Rattle.build.specs.Placed.{start_of, started}
use Rattle.build.specs.Bytes.{two_texts, used_at}

-- the bytes of a row of a shelf
module _ (s : Shelf) (file : List ℕ) (i : ℕ) where
  pub row-of-three : kind_of (ref_at s file i) ≡ 1
      → length (row_bytes_at (stock_of s file) i)
      ≡ 1 + suc (length (text_in (record_of s file i) s.locality (s.locality + 30)))
      + suc (length (text_in (record_of s file i) (s.locality + 30) (s.locality + 65)))
      + suc (length (text_in (record_of s file i) (s.locality + 65) (s.locality + 100)))
  unfolding row_bytes_at texts_at
  row-of-three e =
      let a = text_in (record_of s file i) s.locality (s.locality + 30) in
      let b = text_in (record_of s file i) (s.locality + 30) (s.locality + 65) in
      let c = text_in (record_of s file i) (s.locality + 65) (s.locality + 100) in
      simp (eq-eqb (kind_of (ref_at s file i)) 1 e)
      (omega (
        arith,
        length-append a (texts_bytes (b ∷ c ∷ [])),
        length-append b (texts_bytes (c ∷ [])),
        length-append c [],
      ))

  pub row-of-one : (kind_of (ref_at s file i) ≡ 1 → ⊥)
      → length (row_bytes_at (stock_of s file) i)
      ≡ 1 + suc (length (text_in (record_of s file i) s.text (s.text + text_width (kind_of (ref_at s file i)))))
  unfolding row_bytes_at texts_at
  row-of-one n =
      let t = text_in (record_of s file i) s.text (s.text + text_width (kind_of (ref_at s file i))) in
      simp (ne_eqb (kind_of (ref_at s file i)) 1 n) (omega (arith, length-append t []))

-- a row has its type byte
pub row-has-bytes : (st : Stock) (i : ℕ) → length (row_bytes_at st i) ≡ 0 → ⊥
unfolding row_bytes_at
row-has-bytes st i e = omega (arith, e)

-- one row more
module _ (st : Stock) (marks : List ℕ) (i : ℕ) (p : 1 ≤ i) where
  back : i + 1 - 1 ≡ suc (i - 1)
  back = omega arith

  forth : suc (i - 1) ≡ i
  forth = omega arith

  pub count-on : count_to marks (i + 1 - 1) ≡ count_to marks (i - 1) + cond (not (eqb (size_at st marks i) 0)) 1 0
  count-on = rw back (rw forth (by-test (is_marked marks i)))
    where
      by-test : (t : Bool)
          → count_to marks (i - 1) + cond t 1 0
          ≡ count_to marks (i - 1) + cond (not (eqb (cond t (length (row_bytes_at st i)) 0) 0)) 1 0
      by-test true = simp (ne_eqb (length (row_bytes_at st i)) 0 (row-has-bytes st i))
      by-test false = refl

  pub bytes-more : bytes_to st marks (i + 1 - 1) ≡ bytes_to st marks (i - 1) + size_at st marks i
  bytes-more = rw back (rw forth refl)

  -- the marks once it has its start
  placed-here : (now : List ℕ) → i < length now → get_or now i 0 ≡ get_or marks i 0
      → get_or (started now i (bytes_to st marks (i - 1))) i 0 ≡ start_of st marks i
  placed-here now long same = rw same (by-test (eqb (get_or marks i 0) 0) refl)
    where
      by-test : (t : Bool) → eqb (get_or marks i 0) 0 ≡ t
          → get_or (cond (not t) (set now i (suc (bytes_to st marks (i - 1)))) now) i 0
          ≡ cond (not t) (suc (bytes_to st marks (i - 1))) 0
      by-test true h = same ∙ eqb-true _ 0 h
      by-test false h = get_or-set_same now i (suc (bytes_to st marks (i - 1))) 0 long

other-keeps : (now : List ℕ) (i j v : ℕ) (t : Bool) → (j ≡ i → ⊥)
    → get_or (cond t (set now i v) now) j 0 ≡ get_or now j 0
other-keeps now i j v true n = get_or-set_other now i j v 0 n
other-keeps now i j v false n = refl

same_long : (now : List ℕ) (i v : ℕ) (t : Bool) → length (cond t (set now i v) now) ≡ length now
same_long now i v true = length-set now i v
same_long now i v false = refl

-- the rows before i have their starts, and those from i on their marks
pub record Placing (st : Stock) (marks : List ℕ) (i : ℕ) (now : List ℕ) : Type 0 where
  pub some : 1 ≤ i
  pub as_long : length now ≡ length marks
  pub before : (j : ℕ) → 1 ≤ j → j < i → get_or now j 0 ≡ start_of st marks j
  pub behind : (j : ℕ) → i ≤ j → get_or now j 0 ≡ get_or marks j 0

pub placing-start : (st : Stock) (marks : List ℕ) → Placing st marks 1 marks
placing-start st marks =
    record { some = omega arith; as_long = refl; before = λ j p q. absurd (omega arith); behind = λ j p. refl }

-- the step by row i
pub placing-on : {st : Stock} {marks now next : List ℕ} {i : ℕ} → Placing st marks i now → i < length now
    → next ≡ started now i (bytes_to st marks (i - 1)) → Placing st marks (i + 1) next
placing-on {st} {marks} {now} {next} {i} h long is =
    record {
      some = omega arith;
      as_long = ap length is ∙ (same_long now i _ (is_marked now i) ∙ h.as_long);
      before = λ j p q. ap (λ (m : List ℕ). get_or m j 0) is ∙ by-test j p q (eqb j i) refl;
      behind =
          λ j p.
          ap (λ (m : List ℕ). get_or m j 0) is
          ∙ (other-keeps now i j _ (is_marked now i) (λ e. omega arith) ∙ h.behind j (omega arith));
    }
  where
    by-test : (j : ℕ) → 1 ≤ j → j < i + 1 → (t : Bool) → eqb j i ≡ t
        → get_or (started now i (bytes_to st marks (i - 1))) j 0 ≡ start_of st marks j
    by-test j p q true e =
        rw (eqb-true j i e) (placed-here st marks i h.some now long (h.behind i (le_refl i)))
    by-test j p q false e =
        let n = eqb-false j i e in
        other-keeps now i j _ (is_marked now i) n ∙ h.before j p (omega (arith, n))

-- a row, where it has a start
pub used-none : (st : Stock) (starts : List ℕ) (i : ℕ) → get_or starts i 0 ≡ 0 → [] ≡ used_at st starts i
used-none st starts i e = simp (eq-eqb (get_or starts i 0) 0 e)

pub used-some : (st : Stock) (starts : List ℕ) (i : ℕ) → (get_or starts i 0 ≡ 0 → ⊥)
    → row_bytes_at st i ≡ used_at st starts i
used-some st starts i n = simp (ne_eqb (get_or starts i 0) 0 n)

-- the rows from i on
abbrev pub rows_left : Stock → List ℕ → ℕ → List ℕ
rows_left st starts i = rows_from st starts (st.last - i) i

pub rows_step : (st : Stock) (starts : List ℕ) (i : ℕ) → i < st.last
    → rows_left st starts i ≡ used_at st starts i ++ rows_left st starts (i + 1)
rows_step st starts i h = rw (let k : st.last - i ≡ suc (st.last - suc i) = omega arith in k, add-one i)

pub rows_end : (st : Stock) (starts : List ℕ) (i : ℕ) → st.last ≤ i → rows_left st starts i ≡ []
rows_end st starts i h = rw (let k : st.last - i ≡ 0 = omega arith in k)

-- the row of an organisation whose texts stand at a place, if it is there
module _ (others : List ℕ) (there : Bool) (at : ℕ) where
  pub no-organisation : there ≡ false → [] ≡ organisation_bytes others there at
  unfolding organisation_bytes
  no-organisation e = simp e

  pub some-organisation : there ≡ true
      → 6 ∷ texts_bytes (two_texts others at (at + 60) (at + 120)) ≡ organisation_bytes others there at
  unfolding organisation_bytes
  some-organisation e = simp e

  pub an-organisation : there ≡ true
      → length (organisation_bytes others there at)
      ≡ 1 + suc (length (text_in others at (at + 60))) + suc (length (text_in others (at + 60) (at + 120)))
  an-organisation e =
      let a = text_in others at (at + 60) in
      let b = text_in others (at + 60) (at + 120) in
      omega (arith, ap length (some-organisation e), length-append a (texts_bytes (b ∷ [])), length-append b [])
