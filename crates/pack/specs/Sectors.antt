-- "How many in this sector?": the ten counts of some inward codes, told by their first bytes.
-- Assumes nothing.
use Rattle.std.specs.Prelude.{ℕ, zero, suc, ◌+◌, cond, List, [], ◌∷◌, ◌++◌, eqb}
use Rattle.pack.specs.Numbers.{bytes_of}

-- how often a byte is one of these
abbrev pub how_many : ℕ → List ℕ → ℕ
how_many b [] = 0
how_many b (x ∷ xs) = cond (eqb x b) (suc (how_many b xs)) (how_many b xs)

-- "inward digits 0 to 9": how many of these bytes are that digit
abbrev pub in_sector : ℕ → List ℕ → ℕ
in_sector digit firsts = how_many (48 + digit) firsts

-- so many counts, from a digit on
abbrev pub counts_from : (n digit : ℕ) → List ℕ → List ℕ
counts_from zero digit firsts = []
counts_from (suc n) digit firsts = in_sector digit firsts ∷ counts_from n (suc digit) firsts

-- "ten counts .., for inward digits 0 to 9"
unfoldable pub sector_counts : List ℕ → List ℕ
sector_counts firsts = counts_from 10 0 firsts

-- all of them together
abbrev pub total : List ℕ → ℕ
total [] = 0
total (n ∷ ns) = n + total ns

-- "of 4 bytes"
abbrev pub counts_bytes : List ℕ → List ℕ
counts_bytes [] = []
counts_bytes (n ∷ ns) = bytes_of 4 n ++ counts_bytes ns
