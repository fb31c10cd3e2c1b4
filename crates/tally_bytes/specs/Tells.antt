-- What entries tell of a list of codes, beside an answer for each code: how many there are of it, or a refusal.
-- Assumes nothing.
use Rattle.std.specs.Prelude.{ℕ, ◌≤◌, ◌<◌, ◌≡◌, List, length, get_or}
use Rattle.file_compare.specs.Order.{order}
use Rattle.pack.specs.Numbers.{bytes_of, number_from}
use Rattle.tally.specs.Tally.{Entry, codes, counts, total}
use Rattle.std.specs.Prelude.{Ok}
use Rattle.refusal.specs.Answer.{Answer}

-- the k-th code as it is written, counted from 0, and its count
abbrev pub code_at : List Entry → ℕ → List ℕ
code_at es k = bytes_of 4 (get_or (codes es) k 0)

abbrev pub count_at : List Entry → ℕ → ℕ
count_at es k = get_or (counts es) k 0

-- a code stands among the entries
pub record Stands (code : List ℕ) (es : List Entry) : Type 0 where
  pub place : ℕ
  pub within : place < length es
  pub is : code_at es place ≡ code

pub record Tells (answer : List ℕ → Answer) (all : List ℕ) (es : List Entry) : Type 0 where
  -- "rising", compared as bytes: so each code stands once
  pub rising : (j k : ℕ) → j < k → k < length es → order (code_at es j) (code_at es k) ≡ 1
  -- each code has the count that is answered for it, and it has some
  pub each : (k : ℕ) → k < length es → answer (code_at es k) ≡ Ok (count_at es k)
  pub some : (k : ℕ) → k < length es → 1 ≤ count_at es k
  -- four bytes hold the count
  pub held : (k : ℕ) → k < length es → number_from 0 (bytes_of 4 (count_at es k)) ≡ count_at es k
  -- no code that has some is missing
  pub none_missing : (code : List ℕ) (n : ℕ) → answer code ≡ Ok n → 1 ≤ n → Stands code es
  -- the counts add up to all
  pub all_counted : total es ≡ length all
