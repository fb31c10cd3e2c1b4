-- The marked rows, in their order: what they stand for, where each stands, and that they are the entries of a pack.
-- Assumes nothing.
use Prim.Native.Nat.{ℕ, zero, suc, ◌+◌, ◌-◌, ◌≤◌, ◌<◌}
use mathlib.Core.Path.{◌≡◌, refl, sym, ap, ap₂}
use mathlib.Core.Bool.{Bool, true, false, cond, ◌||◌}
use mathlib.Core.List.{List, [], ◌∷◌, ◌++◌}
use mathlib.Core.Logic.{⊎_elim}
use native.Mathlib.Omega.{arith}
use native.Mathlib.Nat.{eq-or-lt_of_le}
use borrow.Author.Tests.{eq-eqb, ne_eqb, eqb-true, eqb-false}
use lib.Dec.{eqb}
use lib.ListN.{length, length-append}
use Rattle.field.specs.Test.{elem}
use Rattle.source.specs.Address.{Lookup, ref, kind_of, key_of}
use Rattle.shelf.specs.Stock.{Stock, Good, look_in}
use Rattle.pack.specs.Layout.{texts_or, Entry, entry, table_entries, entry_bytes, entries_bytes, offset_of}
use Rattle.pack_carries.specs.Used.{Rises}
use Rattle.build.specs.Rows.{row_bytes_at, is_marked, bytes_to, count_to, rows_from}
use Rattle.build_exact.proofs.Orders.{or_right}

-- what the marked ones of k rows from i on stand for
abbrev pub refs_from : Stock → List ℕ → ℕ → ℕ → List ℕ
refs_from st marks zero i = []
refs_from st marks (suc k) i =
    cond (is_marked marks i) (st.stands_for i ∷ refs_from st marks k (suc i)) (refs_from st marks k (suc i))

-- a marked row that stands for r
pub record Standing (st : Stock) (marks : List ℕ) (r : ℕ) : Type 0 where
  pub row : ℕ
  pub low : 1 ≤ row
  pub high : row < st.last
  pub marked : is_marked marks row ≡ true
  pub is : st.stands_for row ≡ r

-- a row that is in force for what it stands for
abbrev pub InForce : Stock → ℕ → Type 0
InForce st i = st.row (st.stands_for i) ≡ i

-- its entry in a pack is the row
own-entry : (st : Stock) (i : ℕ) → 1 ≤ i → InForce st i
    → entry_bytes (entry (st.stands_for i) (texts_or (look_in st (kind_of (st.stands_for i)) (key_of (st.stands_for i)))))
    ≡ row_bytes_at st i
unfolding look_in row_bytes_at
own-entry st i low own =
    let again : ref (kind_of (st.stands_for i)) (key_of (st.stands_for i)) ≡ st.stands_for i = omega arith in
    rw (again, own, ne_eqb i 0 (λ z. omega arith))

module _ (st : Stock) (marks : List ℕ) where
  -- ---- which they are

  -- a marked row is among them
  pub refs-elem : (k i j : ℕ) → i ≤ j → j < i + k → is_marked marks j ≡ true
      → elem (st.stands_for j) (refs_from st marks k i) ≡ true
  refs-elem zero i j h l e = absurd (omega arith)
  refs-elem (suc k) i j h l e =
      ⊎_elim (λ (q : i ≡ j). rw (q, e) (rw (eq-eqb (st.stands_for j) (st.stands_for j) refl)))
      (λ (g : i < j). by-test (is_marked marks i) (refs-elem k (suc i) j g (omega arith) e)) (eq-or-lt_of_le h)
    where
      by-test : (t : Bool) → elem (st.stands_for j) (refs_from st marks k (suc i)) ≡ true
          → elem (st.stands_for j)
          (cond t (st.stands_for i ∷ refs_from st marks k (suc i)) (refs_from st marks k (suc i)))
          ≡ true
      by-test true later =
          or_right (eqb (st.stands_for j) (st.stands_for i)) (elem (st.stands_for j) (refs_from st marks k (suc i))) later
      by-test false later = later

  -- and they are no other
  pub refs-standing : (k i r : ℕ) → 1 ≤ i → i + k ≤ suc (st.last - 1) → elem r (refs_from st marks k i) ≡ true
      → Standing st marks r
  refs-standing zero i r low high e = let z : ◌≡◌ {A = ℕ} 0 1 = cc in absurd (omega arith)
  refs-standing (suc k) i r low high e =
      by_tests (is_marked marks i) (eqb r (st.stands_for i)) refl refl e
      (refs-standing k (suc i) r (omega arith) (omega arith))
    where
      by_tests : (t u : Bool) → is_marked marks i ≡ t → eqb r (st.stands_for i) ≡ u
          → elem r (cond t (st.stands_for i ∷ refs_from st marks k (suc i)) (refs_from st marks k (suc i))) ≡ true
          → (elem r (refs_from st marks k (suc i)) ≡ true → Standing st marks r)
          → Standing st marks r
      by_tests true true p q e later =
          record { row = i; low = low; high = omega arith; marked = p; is = sym (eqb-true r (st.stands_for i) q) }
      by_tests true false p q e later = later (rw q at e)
      by_tests false u p q e later = later e

  pub refs-count : (look : Lookup) (k j : ℕ)
      → length (table_entries look (refs_from st marks k (suc j))) + count_to marks j ≡ count_to marks (j + k)
  refs-count look zero j = rw (let z : j + 0 ≡ j = omega arith in z) (omega arith)
  refs-count look (suc k) j =
      let next : suc j + k ≡ j + suc k = omega arith in
      by-test (is_marked marks (suc j)) (rw next at (refs-count look k (suc j)))
    where
      rest : List ℕ
      rest = refs_from st marks k (suc (suc j))

      by-test : (t : Bool)
          → length (table_entries look rest) + (count_to marks j + cond t 1 0) ≡ count_to marks (j + suc k)
          → length (table_entries look (cond t (st.stands_for (suc j) ∷ rest) rest)) + count_to marks j
          ≡ count_to marks (j + suc k)
      by-test true e = omega arith
      by-test false e = omega arith

-- where a marked row is in force
module _ (st : Stock) (marks : List ℕ) (good : Good st)
    (own : (i : ℕ) → 1 ≤ i → i < st.last → is_marked marks i ≡ true → InForce st i) where
  -- "by type then key"
  pub refs-rises : (k i low : ℕ) → 1 ≤ i → i + k ≤ suc (st.last - 1)
      → ((j : ℕ) → i ≤ j → j < i + k → low < st.stands_for j)
      → Rises low (refs_from st marks k i)
  refs-rises zero i low first end above = tt
  refs-rises (suc k) i low first end above =
      by-test (is_marked marks i) refl
      (λ (n : ℕ) (h : (j : ℕ) → suc i ≤ j → j < suc i + k → n < st.stands_for j).
      refs-rises k (suc i) n (omega arith) (omega arith) h)
    where
      by-test : (b : Bool) → is_marked marks i ≡ b
          → ((n : ℕ) → ((j : ℕ) → suc i ≤ j → j < suc i + k → n < st.stands_for j)
          → Rises n (refs_from st marks k (suc i)))
          → Rises low (cond b (st.stands_for i ∷ refs_from st marks k (suc i)) (refs_from st marks k (suc i)))
      by-test true e later = (
        above i (omega arith) (omega arith),
        later (st.stands_for i) (λ j h l. good.rise i j first h (omega arith) (own i first (omega arith) e)),
      )
      by-test false e later = later low (λ j h l. above j (omega arith) (omega arith))

  -- ---- what they are in a pack

  abbrev own_entry : ℕ → Entry
  own_entry i = entry (st.stands_for i) (texts_or (look_in st (kind_of (st.stands_for i)) (key_of (st.stands_for i))))

  pub entries-rows : (k i : ℕ) → 1 ≤ i → i + k ≤ suc (st.last - 1)
      → entries_bytes (table_entries (look_in st) (refs_from st marks k i)) ≡ rows_from st marks k i
  entries-rows zero i low high = refl
  entries-rows (suc k) i low high = by-test (is_marked marks i) refl (entries-rows k (suc i) (omega arith) (omega arith))
    where
      rest : List ℕ
      rest = refs_from st marks k (suc i)

      by-test : (b : Bool) → is_marked marks i ≡ b
          → entries_bytes (table_entries (look_in st) rest) ≡ rows_from st marks k (suc i)
          → entries_bytes (table_entries (look_in st) (cond b (st.stands_for i ∷ rest) rest))
          ≡ cond b (row_bytes_at st i) [] ++ rows_from st marks k (suc i)
      by-test true e later = ap₂ ◌++◌ (own-entry st i low (own i low (omega arith) e)) later
      by-test false e later = later

  -- ---- where they stand

  module _ (m : ℕ) (high : suc m < st.last) (marked : is_marked marks (suc m) ≡ true) (more : List Entry) where
    -- the bytes before a row, of the rows from a place on
    pub offset-from : (k j : ℕ) → j ≤ m → m < j + k
        → offset_of (table_entries (look_in st) (refs_from st marks k (suc j)) ++ more) (st.stands_for (suc m))
        + bytes_to st marks j
        ≡ bytes_to st marks m
    offset-from zero j h l = absurd (omega arith)
    offset-from (suc k) j h l =
        ⊎_elim (λ (e : j ≡ m). here e)
        (λ (g : j < m). by-test g (is_marked marks (suc j)) refl (offset-from k (suc j) g (omega arith))) (eq-or-lt_of_le h)
      where
        rest : List ℕ
        rest = refs_from st marks k (suc (suc j))

        r : ℕ
        r = st.stands_for (suc m)

        here : j ≡ m
            → offset_of (table_entries (look_in st) (refs_from st marks (suc k) (suc j)) ++ more) r
            + bytes_to st marks j
            ≡ bytes_to st marks m
        here e = rw (e, marked) (rw (eq-eqb r r refl) (omega arith))

        by-test : j < m → (b : Bool) → is_marked marks (suc j) ≡ b
            → offset_of (table_entries (look_in st) rest ++ more) r
            + (bytes_to st marks j + cond b (length (row_bytes_at st (suc j))) 0)
            ≡ bytes_to st marks m
            → offset_of (table_entries (look_in st) (cond b (st.stands_for (suc j) ∷ rest) rest) ++ more) r
            + bytes_to st marks j
            ≡ bytes_to st marks m
        by-test g true e later =
            let in-force = own (suc j) (omega arith) (omega arith) e in
            let apart : eqb (st.stands_for (suc j)) r ≡ false =
            ne_eqb (st.stands_for (suc j)) r
            (λ q. omega (arith, good.rise (suc j) (suc m) (omega arith) (omega arith) high in-force)) in
            let size : length (entry_bytes (own_entry (suc j))) ≡ length (row_bytes_at st (suc j)) =
            ap length (own-entry st (suc j) (omega arith) in-force) in
            rw apart (omega (arith, size, later))
        by-test g false e later = omega (arith, later)

-- a number that stands for none of the rows
module _ (look : Lookup) (more : List Entry) (r : ℕ) where
  pub offset-behind : (rs : List ℕ) → (elem r rs ≡ true → ⊥)
      → offset_of (table_entries look rs ++ more) r ≡ length (entries_bytes (table_entries look rs)) + offset_of more r
  offset-behind [] n = omega arith
  offset-behind (x ∷ xs) n = by-test (eqb r x) refl n (offset-behind xs)
    where
      e : Entry
      e = entry x (texts_or (look (kind_of x) (key_of x)))

      by-test : (t : Bool) → eqb r x ≡ t → (t || elem r xs ≡ true → ⊥)
          → ((elem r xs ≡ true → ⊥)
          → offset_of (table_entries look xs ++ more) r ≡ length (entries_bytes (table_entries look xs)) + offset_of more r)
          → offset_of (table_entries look (x ∷ xs) ++ more) r
          ≡ length (entries_bytes (table_entries look (x ∷ xs))) + offset_of more r
      by-test true q n later = absurd (n refl)
      by-test false q n later =
          rw (ne_eqb x r (λ p. eqb-false r x q (sym p)))
          (omega (arith, later n, length-append (entry_bytes e) (entries_bytes (table_entries look xs))))
