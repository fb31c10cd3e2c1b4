-- Two stocks as one: what it says of a row of either, and that it is what a builder rests on where both are.
-- Assumes nothing.
use Prim.Native.Nat.{ℕ, zero, suc, ◌+◌, ◌-◌, ◌≤◌, ◌<◌}
use mathlib.Core.Path.{◌≡◌, refl, sym, ap, ◌∙◌}
use mathlib.Core.Bool.{Bool, true, false, cond}
use mathlib.Core.List.{List}
use native.Mathlib.Omega.{arith}
use borrow.Author.Tests.{lt-ltb, le-ltb, ltb-true, ltb-false, eq-eqb, ne_eqb}
use lib.Dec.{eqb, ltb}
use Rattle.shelf.specs.Stock.{Stock, ahead, of_one, behind, joined, Before, texts_or_none, Good}

-- ---- by the place of a row

module _ {A : Type 0} (a : Stock) (first second : ℕ → A) where
  pub of-first : (i : ℕ) → i < a.last → of_one a first second i ≡ first i
  of-first i h = simp (lt-ltb i a.last h)

  pub of-second : (i : ℕ) → a.last ≤ i → of_one a first second i ≡ second (i - ahead a)
  of-second i h = simp (le-ltb i a.last h)

  -- a row of the second, by its own place
  pub of-behind : (i : ℕ) → 1 ≤ i → of_one a first second (ahead a + i) ≡ second i
  of-behind i h =
      let back : ahead a + i - ahead a ≡ i = omega arith in
      of-second (ahead a + i) (omega arith) ∙ ap second back

-- ---- by a number

pub behind-some : (a : Stock) (q : ℕ) → behind a (suc q) ≡ ahead a + suc q
behind-some a q = simp (ne_eqb (suc q) 0 (λ z. omega arith))

first_some : (p other : ℕ) → cond (eqb (suc p) 0) other (suc p) ≡ suc p
first_some p other = simp (ne_eqb (suc p) 0 (λ z. omega arith))

module _ (a b : Stock) (r : ℕ) where
  -- a number that the first has
  pub row_first : (a.row r ≡ 0 → ⊥) → (joined a b).row r ≡ a.row r
  row_first n = simp (ne_eqb (a.row r) 0 n)

  -- one that it has not
  pub row-second : a.row r ≡ 0 → (joined a b).row r ≡ behind a (b.row r)
  row-second e = simp (eq-eqb (a.row r) 0 e)

  pub row-only-first : b.row r ≡ 0 → (joined a b).row r ≡ a.row r
  row-only-first none = by_row (a.row r) refl
    where
      by_row : (q : ℕ) → a.row r ≡ q → (joined a b).row r ≡ q
      by_row zero e = rw (row-second e, none)
      by_row (suc q) e = row_first (λ z. omega arith) ∙ e

  -- what it finds is what the one finds that has it
  pub found_first : ((p : ℕ) → a.row r ≡ suc p → suc p < a.last) → b.row r ≡ 0
      → texts_or_none (joined a b) ((joined a b).row r) ≡ texts_or_none a (a.row r)
  found_first there none = by_row (a.row r) refl
    where
      by_row : (q : ℕ) → a.row r ≡ q → texts_or_none (joined a b) ((joined a b).row r) ≡ texts_or_none a q
      by_row zero e = rw (row-second e, none)
      by_row (suc q) e =
          let some : a.row r ≡ 0 → ⊥ = λ z. omega arith in
          rw (row_first some, e) (simp (ne_eqb (suc q) 0 (λ z. omega arith), of-first a a.texts b.texts (suc q) (there q e)))

  pub found-second : a.row r ≡ 0 → texts_or_none (joined a b) ((joined a b).row r) ≡ texts_or_none b (b.row r)
  found-second none = by_row (b.row r) refl
    where
      by_row : (q : ℕ) → b.row r ≡ q → texts_or_none (joined a b) ((joined a b).row r) ≡ texts_or_none b q
      by_row zero e = rw (row-second none, e)
      by_row (suc q) e =
          rw (row-second none, e)
          (simp (
            ne_eqb (suc q) 0 (λ z. omega arith),
            ne_eqb (ahead a + suc q) 0 (λ z. omega arith),
            of-behind a a.texts b.texts (suc q) (omega arith),
          ))

-- what holds of the rows of both holds of all
pub joined-each : (a b : Stock) (P : ℕ → Type 0) → ((i : ℕ) → 1 ≤ i → i < a.last → P (a.stands_for i))
    → ((i : ℕ) → 1 ≤ i → i < b.last → P (b.stands_for i))
    → (i : ℕ) → 1 ≤ i → i < (joined a b).last → P ((joined a b).stands_for i)
joined-each a b P first second i o l = by-test (ltb i a.last) refl
  where
    by-test : (t : Bool) → ltb i a.last ≡ t → P (cond t (a.stands_for i) (b.stands_for (i - ahead a)))
    by-test true e = first i o (ltb-true i a.last e)
    by-test false e = let k = ltb-false i a.last e in second (i - ahead a) (omega arith) (omega arith)

-- ---- what a builder rests on

module _ (a b : Stock) (g : Good a) (h : Good b) (before : Before a b) where
  abbrev both : Stock
  both = joined a b

  -- where the row in force stands among those of the first, the first has it
  own_first : (i r : ℕ) → 1 ≤ i → i < a.last → both.row r ≡ i → a.row r ≡ i
  own_first i r o l e = by_rows (a.row r) (b.row r) e
    where
      by_rows : (p q : ℕ) → cond (eqb p 0) (behind a q) p ≡ i → p ≡ i
      by_rows zero zero e = absurd (omega arith)
      by_rows zero (suc q) e = absurd (omega (arith, sym (behind-some a q) ∙ e))
      by_rows (suc p) q e = sym (first_some p (behind a q)) ∙ e

  own-second : (i r : ℕ) → 1 ≤ i → a.last ≤ i → both.row r ≡ i → b.row r ≡ i - ahead a
  own-second i r o l e = by_rows (a.row r) (b.row r) refl e
    where
      by_rows : (p q : ℕ) → a.row r ≡ p → cond (eqb p 0) (behind a q) p ≡ i → q ≡ i - ahead a
      by_rows zero zero f e = absurd (omega arith)
      by_rows zero (suc q) f e = omega (arith, sym (behind-some a q) ∙ e)
      by_rows (suc p) q f e = absurd (omega (arith, (g.found r p f).0, sym (first_some p (behind a q)) ∙ e))

  joined-rise : (i j : ℕ) → 1 ≤ i → i < j → j < both.last → both.row (both.stands_for i) ≡ i
      → both.stands_for i < both.stands_for j
  joined-rise i j o k l e = by_tests (ltb i a.last) (ltb j a.last) refl refl
    where
      by_tests : (t u : Bool) → ltb i a.last ≡ t → ltb j a.last ≡ u → both.stands_for i < both.stands_for j
      by_tests true true p q =
          let low = ltb-true i a.last p in
          let high = ltb-true j a.last q in
          let here = of-first a a.stands_for b.stands_for i low in
          let own = own_first i (a.stands_for i) o low (rw here at e) in
          rw (here, of-first a a.stands_for b.stands_for j high) (g.rise i j o k high own)
      by_tests true false p q =
          let low = ltb-true i a.last p in
          let high = ltb-false j a.last q in
          rw (of-first a a.stands_for b.stands_for i low, of-second a a.stands_for b.stands_for j high)
          (before.each i (j - ahead a) o low (omega arith) (omega arith))
      by_tests false true p q =
          absurd (omega (arith, ltb-false i a.last p, ltb-true j a.last q))
      by_tests false false p q =
          let low = ltb-false i a.last p in
          let high = ltb-false j a.last q in
          let here = of-second a a.stands_for b.stands_for i low in
          let own = own-second i (b.stands_for (i - ahead a)) o low (rw here at e) in
          rw (here, of-second a a.stands_for b.stands_for j high)
          (h.rise (i - ahead a) (j - ahead a) (omega arith) (omega arith) (omega arith) own)

  joined-found : (r p : ℕ) → both.row r ≡ suc p → (suc p < both.last) × (both.stands_for (suc p) ≡ r)
  joined-found r p e = by_rows (a.row r) (b.row r) refl refl e
    where
      by_rows : (q s : ℕ) → a.row r ≡ q → b.row r ≡ s → cond (eqb q 0) (behind a s) q ≡ suc p
          → (suc p < both.last) × (both.stands_for (suc p) ≡ r)
      by_rows zero zero f k e = absurd (omega arith)
      by_rows zero (suc s) f k e =
          let there = h.found r s k in
          let is : suc p ≡ ahead a + suc s = sym (sym (behind-some a s) ∙ e) in
          (omega (arith, there.0), rw is (of-behind a a.stands_for b.stands_for (suc s) (omega arith) ∙ there.1))
      by_rows (suc q) s f k e =
          let there = g.found r q f in
          let is : suc p ≡ suc q = sym e ∙ first_some q (behind a s) in (
            omega (arith, there.0, before.ended),
            rw is (of-first a a.stands_for b.stands_for (suc q) there.0 ∙ there.1),
          )

  pub joined-good : Good (joined a b)
  joined-good =
      record {
        low = joined-each a b (λ r. 0 < r) g.low h.low;
        high = joined-each a b (λ r. r < 600_000_000) g.high h.high;
        rise = joined-rise;
        found = joined-found;
      }
