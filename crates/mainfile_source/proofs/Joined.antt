-- The rows of a set as one stock: a number of a kind is found in the file of that kind, behind the rows of the files before
-- it. Where the files are accepted, that stock is what a builder rests on.
-- Assumes nothing.
use Prim.Native.Nat.{ℕ, zero, suc, ◌+◌, ◌-◌, ◌≤◌, ◌<◌}
use mathlib.Core.Path.{◌≡◌, refl, sym, ap, ◌∙◌}
use mathlib.Core.List.{List}
use native.Mathlib.Omega.{arith}
use borrow.Author.Tests.{ne_eqb}
use Rattle.file.specs.Check.{Format, records}
use Rattle.file.specs.Accepted.{Accepted}
use Rattle.file.proofs.Laws.{at-least-two}
use Rattle.source.specs.Address.{ref}
use Rattle.shelf.specs.Shelf.{ref_at, last_of, row_of}
use Rattle.shelf.specs.Stock.{Stock, stock_of, ahead, behind, joined, Before, texts_or_none, look_in, Good}
use Rattle.shelf.proofs.Stock.{stock-found}
use Rattle.shelf.proofs.Joined.{row-second, row-only-first, found_first, found-second, joined-each, joined-good}
use Rattle.mainfile.specs.Set.{Set}
use Rattle.mainfile.specs.Rows.{shelf_of, file_of, kind_stock, set_stock, set_lookup}
use Rattle.mainfile.specs.Accepted.{AcceptedRows}
use Rattle.mainfile_source.specs.Rows.{row_files, rows_ahead, behind_by}
use Rattle.mainfile_source.proofs.Shelves.{row-range, row_other, sized-1, sized-2, sized-3, sized-4, sized-5, good-1, good-2, good-3, good-4, good-5}

-- rows do not depend on the other two files
pub same_rows : (s : Set)
    → set_stock s ≡ set_stock (row_files s.localities s.thoroughfares s.descriptors s.buildings s.sub_buildings)
unfolding set_stock
same_rows s = refl

-- ---- a number that one of the files has

joined-none : (a b : Stock) (r : ℕ) → a.row r ≡ 0 → b.row r ≡ 0 → (joined a b).row r ≡ 0
joined-none a b r e f = row-second a b r e ∙ rw f

pub behind-none : (q : ℕ) → q ≡ behind_by 0 q
behind-none zero = refl
behind-none (suc q) = simp (ne_eqb (suc q) 0 (λ z. omega arith)) (omega arith)

behind-behind : (a : Stock) (n q : ℕ) → behind a (behind_by n q) ≡ behind_by (ahead a + n) q
behind-behind a n zero = refl
behind-behind a n (suc q) =
    simp (ne_eqb (suc q) 0 (λ z. omega arith), ne_eqb (n + suc q) 0 (λ z. omega arith)) (omega arith)

module _ (s : Set) where
  abbrev k₁ : Stock
  k₁ = kind_stock s 1

  abbrev k₂ : Stock
  k₂ = kind_stock s 2

  abbrev k₃ : Stock
  k₃ = kind_stock s 3

  abbrev k₄ : Stock
  k₄ = kind_stock s 4

  abbrev k₅ : Stock
  k₅ = kind_stock s 5

  abbrev from₄ : Stock
  from₄ = joined k₄ k₅

  abbrev from₃ : Stock
  from₃ = joined k₃ from₄

  abbrev from₂ : Stock
  from₂ = joined k₂ from₃

  module _ (kind key : ℕ) (small : key < 100_000_000) where
    abbrev r : ℕ
    r = ref kind key

    none₁ : (kind ≡ 1 → ⊥) → k₁.row r ≡ 0
    none₁ n = row_other 1 _ _ _ _ sized-1 (file_of s 1) kind key small n

    none₂ : (kind ≡ 2 → ⊥) → k₂.row r ≡ 0
    none₂ n = row_other 2 _ _ _ _ sized-2 (file_of s 2) kind key small n

    none₃ : (kind ≡ 3 → ⊥) → k₃.row r ≡ 0
    none₃ n = row_other 3 _ _ _ _ sized-3 (file_of s 3) kind key small n

    none₄ : (kind ≡ 4 → ⊥) → k₄.row r ≡ 0
    none₄ n = row_other 4 _ _ _ _ sized-4 (file_of s 4) kind key small n

    none₅ : (kind ≡ 5 → ⊥) → k₅.row r ≡ 0
    none₅ n = row_other 5 _ _ _ _ sized-5 (file_of s 5) kind key small n

    no-four : kind < 4 → from₄.row r ≡ 0
    no-four h = joined-none k₄ k₅ r (none₄ (λ e. omega arith)) (none₅ (λ e. omega arith))

    no-three : kind < 3 → from₃.row r ≡ 0
    no-three h = joined-none k₃ from₄ r (none₃ (λ e. omega arith)) (no-four (omega arith))

    no-two : kind < 2 → from₂.row r ≡ 0
    no-two h = joined-none k₂ from₃ r (none₂ (λ e. omega arith)) (no-three (omega arith))

  module _ (key : ℕ) (small : key < 100_000_000) where
    -- by its kind, where the row stands
    pub set-row-1 : (set_stock s).row (ref 1 key) ≡ behind_by (rows_ahead s 1) (k₁.row (ref 1 key))
    unfolding set_stock
    set-row-1 =
        row-only-first k₁ from₂ (ref 1 key) (no-two 1 key small (omega arith)) ∙ behind-none (k₁.row (ref 1 key))

    pub set-row-2 : (set_stock s).row (ref 2 key) ≡ behind_by (rows_ahead s 2) (k₂.row (ref 2 key))
    unfolding set_stock
    set-row-2 =
        row-second k₁ from₂ (ref 2 key) (none₁ 2 key small (λ e. omega arith))
        ∙ ap (behind k₁) (row-only-first k₂ from₃ (ref 2 key) (no-three 2 key small (omega arith)))

    pub set-row-3 : (set_stock s).row (ref 3 key) ≡ behind_by (rows_ahead s 3) (k₃.row (ref 3 key))
    unfolding set_stock
    set-row-3 =
        row-second k₁ from₂ (ref 3 key) (none₁ 3 key small (λ e. omega arith))
        ∙ (ap (behind k₁)
        (row-second k₂ from₃ (ref 3 key) (none₂ 3 key small (λ e. omega arith))
        ∙ ap (behind k₂) (row-only-first k₃ from₄ (ref 3 key) (no-four 3 key small (omega arith))))
        ∙ behind-behind k₁ (ahead k₂) (k₃.row (ref 3 key)))

    pub set-row-4 : (set_stock s).row (ref 4 key) ≡ behind_by (rows_ahead s 4) (k₄.row (ref 4 key))
    unfolding set_stock
    set-row-4 =
        let q = k₄.row (ref 4 key) in
        row-second k₁ from₂ (ref 4 key) (none₁ 4 key small (λ e. omega arith))
        ∙ (ap (behind k₁)
        (row-second k₂ from₃ (ref 4 key) (none₂ 4 key small (λ e. omega arith))
        ∙ (ap (behind k₂)
        (row-second k₃ from₄ (ref 4 key) (none₃ 4 key small (λ e. omega arith))
        ∙ ap (behind k₃) (row-only-first k₄ k₅ (ref 4 key) (none₅ 4 key small (λ e. omega arith))))
        ∙ behind-behind k₂ (ahead k₃) q))
        ∙ (behind-behind k₁ (ahead k₂ + ahead k₃) q
        ∙ ap (λ n. behind_by n q) (let sum : ahead k₁ + (ahead k₂ + ahead k₃) ≡ rows_ahead s 4 = omega arith in sum)))

    pub set-row-5 : (set_stock s).row (ref 5 key) ≡ behind_by (rows_ahead s 5) (k₅.row (ref 5 key))
    unfolding set_stock
    set-row-5 =
        let q = k₅.row (ref 5 key) in
        row-second k₁ from₂ (ref 5 key) (none₁ 5 key small (λ e. omega arith))
        ∙ (ap (behind k₁)
        (row-second k₂ from₃ (ref 5 key) (none₂ 5 key small (λ e. omega arith))
        ∙ (ap (behind k₂)
        (row-second k₃ from₄ (ref 5 key) (none₃ 5 key small (λ e. omega arith))
        ∙ (ap (behind k₃) (row-second k₄ k₅ (ref 5 key) (none₄ 5 key small (λ e. omega arith)))
        ∙ behind-behind k₃ (ahead k₄) q))
        ∙ behind-behind k₂ (ahead k₃ + ahead k₄) q))
        ∙ (behind-behind k₁ (ahead k₂ + (ahead k₃ + ahead k₄)) q
        ∙ ap (λ n. behind_by n q)
        (let sum : ahead k₁ + (ahead k₂ + (ahead k₃ + ahead k₄)) ≡ rows_ahead s 5 = omega arith in sum)))

    there : (kind p : ℕ) → (kind_stock s kind).row (ref kind key) ≡ suc p → suc p < (kind_stock s kind).last
    there kind p e = (stock-found (shelf_of kind) (file_of s kind) (ref kind key) p e).0

    -- and what is found there
    pub look-1 : set_lookup s 1 key ≡ look_in k₁ 1 key
    unfolding look_in set_stock
    look-1 = found_first k₁ from₂ (ref 1 key) (there 1) (no-two 1 key small (omega arith))

    pub look-2 : set_lookup s 2 key ≡ look_in k₂ 2 key
    unfolding look_in set_stock
    look-2 =
        found-second k₁ from₂ (ref 2 key) (none₁ 2 key small (λ e. omega arith))
        ∙ found_first k₂ from₃ (ref 2 key) (there 2) (no-three 2 key small (omega arith))

    pub look-3 : set_lookup s 3 key ≡ look_in k₃ 3 key
    unfolding look_in set_stock
    look-3 =
        found-second k₁ from₂ (ref 3 key) (none₁ 3 key small (λ e. omega arith))
        ∙ (found-second k₂ from₃ (ref 3 key) (none₂ 3 key small (λ e. omega arith))
        ∙ found_first k₃ from₄ (ref 3 key) (there 3) (no-four 3 key small (omega arith)))

    pub look-4 : set_lookup s 4 key ≡ look_in k₄ 4 key
    unfolding look_in set_stock
    look-4 =
        found-second k₁ from₂ (ref 4 key) (none₁ 4 key small (λ e. omega arith))
        ∙ (found-second k₂ from₃ (ref 4 key) (none₂ 4 key small (λ e. omega arith))
        ∙ (found-second k₃ from₄ (ref 4 key) (none₃ 4 key small (λ e. omega arith))
        ∙ found_first k₄ k₅ (ref 4 key) (there 4) (none₅ 4 key small (λ e. omega arith))))

    pub look-5 : set_lookup s 5 key ≡ look_in k₅ 5 key
    unfolding look_in set_stock
    look-5 =
        found-second k₁ from₂ (ref 5 key) (none₁ 5 key small (λ e. omega arith))
        ∙ (found-second k₂ from₃ (ref 5 key) (none₂ 5 key small (λ e. omega arith))
        ∙ (found-second k₃ from₄ (ref 5 key) (none₃ 5 key small (λ e. omega arith))
        ∙ found-second k₄ k₅ (ref 5 key) (none₄ 5 key small (λ e. omega arith))))

-- ---- what a builder rests on

-- an accepted file has a header and a trailer
pub two_records : (f : Format) (file : List ℕ) → Accepted f file → 2 ≤ records f file
two_records f file t = at-least-two f file t.is_whole

joined-ended : (a b : Stock) → 1 ≤ b.last → 1 ≤ (joined a b).last
joined-ended a b h = omega arith

module _ (s : Set) (ok : AcceptedRows s) where
  end₅ : 1 ≤ (k₅ s).last
  end₅ = omega (arith, two_records _ _ ok.sub_buildings)

  end₄ : 1 ≤ (from₄ s).last
  end₄ = joined-ended (k₄ s) (k₅ s) end₅

  end₃ : 1 ≤ (from₃ s).last
  end₃ = joined-ended (k₃ s) (from₄ s) end₄

  good-45 : Good (from₄ s)
  good-45 =
      joined-good (k₄ s) (k₅ s) (good-4 s ok) (good-5 s ok)
      (record {
        ended = end₅;
        each =
            λ i j a b c d.
            omega (arith, (row-range 4 _ _ _ _ sized-4 (file_of s 4) i).1, (row-range 5 _ _ _ _ sized-5 (file_of s 5) j).0);
      })

  low₄ : (i : ℕ) → 1 ≤ i → i < (from₄ s).last → 400_000_000 ≤ (from₄ s).stands_for i
  low₄ =
      joined-each (k₄ s) (k₅ s) (λ r. 400_000_000 ≤ r)
      (λ i a b. (row-range 4 _ _ _ _ sized-4 (file_of s 4) i).0)
      (λ i a b. omega (arith, (row-range 5 _ _ _ _ sized-5 (file_of s 5) i).0))

  good-345 : Good (from₃ s)
  good-345 =
      joined-good (k₃ s) (from₄ s) (good-3 s ok) good-45
      (record {
        ended = end₄;
        each = λ i j a b c d. omega (arith, (row-range 3 _ _ _ _ sized-3 (file_of s 3) i).1, low₄ j c d);
      })

  low₃ : (i : ℕ) → 1 ≤ i → i < (from₃ s).last → 300_000_000 ≤ (from₃ s).stands_for i
  low₃ =
      joined-each (k₃ s) (from₄ s) (λ r. 300_000_000 ≤ r)
      (λ i a b. (row-range 3 _ _ _ _ sized-3 (file_of s 3) i).0)
      (λ i a b. omega (arith, low₄ i a b))

  good-2345 : Good (from₂ s)
  good-2345 =
      joined-good (k₂ s) (from₃ s) (good-2 s ok) good-345
      (record {
        ended = end₃;
        each = λ i j a b c d. omega (arith, (row-range 2 _ _ _ _ sized-2 (file_of s 2) i).1, low₃ j c d);
      })

  low₂ : (i : ℕ) → 1 ≤ i → i < (from₂ s).last → 200_000_000 ≤ (from₂ s).stands_for i
  low₂ =
      joined-each (k₂ s) (from₃ s) (λ r. 200_000_000 ≤ r)
      (λ i a b. (row-range 2 _ _ _ _ sized-2 (file_of s 2) i).0)
      (λ i a b. omega (arith, low₃ i a b))

  pub set-good : Good (set_stock s)
  unfolding set_stock
  set-good =
      joined-good (k₁ s) (from₂ s) (good-1 s ok) good-2345
      (record {
        ended = joined-ended (k₂ s) (from₃ s) end₃;
        each = λ i j a b c d. omega (arith, (row-range 1 _ _ _ _ sized-1 (file_of s 1) i).1, low₂ j c d);
      })
