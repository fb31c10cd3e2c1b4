-- Where the marked rows stand.
-- Assumes nothing.
use Rattle.std.specs.Prelude.{ℕ, zero, suc, ◌-◌, ◌≤◌, ◌<◌, ◌≡◌, cond, List, [], ◌∷◌, length, get_or, set}
use Rattle.shelf.specs.Stock.{Stock}
use Rattle.build.specs.Rows.{is_marked, bytes_to}

-- a marked row has its start, plus 1; any other keeps 0
abbrev pub start_of : Stock → List ℕ → ℕ → ℕ
start_of st marks i = cond (is_marked marks i) (suc (bytes_to st marks (i - 1))) 0

-- the marks once row i, where it is marked, has the start s, plus 1
abbrev pub started : List ℕ → (i s : ℕ) → List ℕ
started marks i s = cond (is_marked marks i) (set marks i (suc s)) marks

pub record Placed (st : Stock) (marks starts : List ℕ) : Type 0 where
  pub same_long : length starts ≡ length marks
  pub each : (i : ℕ) → 1 ≤ i → i < st.last → get_or starts i 0 ≡ start_of st marks i

-- such starts, where no list of them is kept: those of k rows from i on, and of all that have a mark
abbrev pub starts_from : Stock → List ℕ → ℕ → ℕ → List ℕ
starts_from st marks zero i = []
starts_from st marks (suc k) i = start_of st marks i ∷ starts_from st marks k (suc i)

unfoldable pub starts_of : Stock → List ℕ → List ℕ
starts_of st marks = starts_from st marks (length marks) 0
