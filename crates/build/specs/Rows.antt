-- The rows that are marked, in their order.
-- Assumes nothing.
use Rattle.std.specs.Prelude.{ℕ, zero, suc, ◌+◌, ◌-◌, Bool, cond, not, List, [], ◌∷◌, ◌++◌, eqb, length, drop, get_or}
use Rattle.source.specs.Address.{kind_of}
use Rattle.shelf.specs.Stock.{Stock}
use Rattle.pack.specs.Layout.{texts_bytes}

-- "a type byte, then texts": row i
unfoldable pub row_bytes_at : Stock → ℕ → List ℕ
row_bytes_at st i = kind_of (st.stands_for i) ∷ texts_bytes (st.texts i)

abbrev pub is_marked : List ℕ → ℕ → Bool
is_marked marks i = not (eqb (get_or marks i 0) 0)

-- the bytes of row i, 0 where it is not marked
abbrev pub size_at : Stock → List ℕ → ℕ → ℕ
size_at st marks i = cond (is_marked marks i) (length (row_bytes_at st i)) 0

-- the bytes of the marked ones among the first n rows, and how many they are
abbrev pub bytes_to : Stock → List ℕ → ℕ → ℕ
bytes_to st marks zero = 0
bytes_to st marks (suc n) = bytes_to st marks n + size_at st marks (suc n)

abbrev pub count_to : List ℕ → ℕ → ℕ
count_to marks zero = 0
count_to marks (suc n) = count_to marks n + cond (is_marked marks (suc n)) 1 0

-- the same of all rows
abbrev pub all_bytes : Stock → List ℕ → ℕ
all_bytes st marks = bytes_to st marks (st.last - 1)

abbrev pub all_count : Stock → List ℕ → ℕ
all_count st marks = count_to marks (st.last - 1)

-- the marked ones of k rows from i on
abbrev pub rows_from : Stock → List ℕ → ℕ → ℕ → List ℕ
rows_from st marks zero i = []
rows_from st marks (suc k) i = cond (is_marked marks i) (row_bytes_at st i) [] ++ rows_from st marks k (suc i)

-- the marks of the rows of two stocks as one, the second's behind the first's: a list of marks begins with that of no row
abbrev pub joined_marks : List ℕ → List ℕ → List ℕ
joined_marks first second = first ++ drop 1 second
