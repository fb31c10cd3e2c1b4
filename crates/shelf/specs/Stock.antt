-- The rows of a source as a builder sees them: numbered, each standing for a number and having texts, whichever shelves they
-- stand on.
-- Assumes nothing.
use Rattle.std.specs.Prelude.{ℕ, suc, ◌+◌, ◌-◌, ◌≤◌, ◌<◌, ◌≡◌, cond, List, eqb, ltb}
use Rattle.std.proofs.Math.Option.{Option, none, some}
use Rattle.source.specs.Address.{Lookup, ref}
use Rattle.shelf.specs.declared.Shelf.{Shelf}
use Rattle.shelf.specs.Shelf.{ref_at, last_of, texts_at, row_of}

pub record Stock : Type 0 where
  -- rows are those from 1 on below this
  pub last : ℕ
  pub stands_for : ℕ → ℕ
  pub texts : ℕ → List (List ℕ)
  -- the row in force for a number, 0 where none is
  pub row : ℕ → ℕ

abbrev pub stock_of : Shelf → List ℕ → Stock
stock_of s file =
    record { last = last_of s file; stands_for = ref_at s file; texts = texts_at s file; row = row_of s file }

-- two stocks as one, the rows of the second behind those of the first: how many rows go before the second's
abbrev pub ahead : Stock → ℕ
ahead a = a.last - 1

-- by the place of a row, what one of the two says of it
abbrev pub of_one : {A : Type 0} → Stock → (first second : ℕ → A) → ℕ → A
of_one a first second i = cond (ltb i a.last) (first i) (second (i - ahead a))

-- the second's row, as a row of both
abbrev pub behind : Stock → ℕ → ℕ
behind a row = cond (eqb row 0) 0 (ahead a + row)

abbrev pub joined : Stock → Stock → Stock
joined a b =
    record {
      last = ahead a + b.last;
      stands_for = of_one a a.stands_for b.stands_for;
      texts = of_one a a.texts b.texts;
      row = λ r. cond (eqb (a.row r) 0) (behind a (b.row r)) (a.row r);
    }

-- every row of the first stands for less than every row of the second, which has an end even where it has no rows
pub record Before (a b : Stock) : Type 0 where
  pub ended : 1 ≤ b.last
  pub each : (i j : ℕ) → 1 ≤ i → i < a.last → 1 ≤ j → j < b.last → a.stands_for i < b.stands_for j

-- what a kind and a key find: the texts of the row in force for them
abbrev pub texts_or_none : Stock → ℕ → Option (List (List ℕ))
texts_or_none st row = cond (eqb row 0) none (some (st.texts row))

unfoldable pub look_in : Stock → Lookup
look_in st kind key = texts_or_none st (st.row (ref kind key))

-- what a builder rests on
pub record Good (st : Stock) : Type 0 where
  -- rows of types 1 to 5
  pub low : (i : ℕ) → 1 ≤ i → i < st.last → 0 < st.stands_for i
  pub high : (i : ℕ) → 1 ≤ i → i < st.last → st.stands_for i < 600_000_000
  -- a row in force is the last that stands for its number, and those behind it stand for more
  pub rise : (i j : ℕ) → 1 ≤ i → i < j → j < st.last → st.row (st.stands_for i) ≡ i
      → st.stands_for i < st.stands_for j
  -- a number finds a row that stands for it
  pub found : (r p : ℕ) → st.row r ≡ suc p → (suc p < st.last) × (st.stands_for (suc p) ≡ r)
