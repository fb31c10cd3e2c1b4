-- A tally: codes in rising order, each once, with how many there are of it.
-- Assumes nothing.
use Rattle.std.specs.Prelude.{ℕ, ◌+◌, cond, List, [], ◌∷◌, ltb, eqb}

pub record Entry : Type 0 where
  pub code : ℕ
  pub count : ℕ

-- an entry that has so many more
abbrev pub more : ℕ → Entry → Entry
more n e = record { code = e.code; count = e.count + n }

-- so many of a code are added: a code belongs to the first entry that is not below it; the same one is added to, otherwise a
-- new one stands before it
abbrev pub add : ℕ → ℕ → List Entry → List Entry
add c n [] = record { code = c; count = n } ∷ []
add c n (e ∷ es) =
    cond (ltb e.code c) (e ∷ add c n es)
    (cond (eqb e.code c) (more n e ∷ es) (record { code = c; count = n } ∷ e ∷ es))

-- the tally of a list of codes: each of them is added
abbrev pub tally : List ℕ → List Entry
tally [] = []
tally (c ∷ cs) = add c 1 (tally cs)

-- what stands in the entries
abbrev pub codes : List Entry → List ℕ
codes [] = []
codes (e ∷ es) = e.code ∷ codes es

abbrev pub counts : List Entry → List ℕ
counts [] = []
counts (e ∷ es) = e.count ∷ counts es

-- how many of a code there are, in a list of codes and in a tally
abbrev pub occurs : ℕ → List ℕ → ℕ
occurs c [] = 0
occurs c (x ∷ xs) = cond (eqb x c) 1 0 + occurs c xs

abbrev pub count_of : ℕ → List Entry → ℕ
count_of c [] = 0
count_of c (e ∷ es) = cond (eqb e.code c) e.count 0 + count_of c es

-- how many there are in all
abbrev pub total : List Entry → ℕ
total [] = 0
total (e ∷ es) = e.count + total es
