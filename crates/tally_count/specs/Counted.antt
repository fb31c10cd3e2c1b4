-- A tally in two lists of numbers.
-- Assumes nothing.
use Rattle.std.specs.Prelude.{ℕ, suc, ◌≡◌, cond, List, [], ◌∷◌, ◌++◌, eqb, length, drop}
use Rattle.tally.specs.Tally.{tally, codes, counts}

-- how many numbers at the front of a list are x
abbrev pub repeats : ℕ → List ℕ → ℕ
repeats x [] = 0
repeats x (y ∷ ys) = cond (eqb y x) (suc (repeats x ys)) 0

-- the tally of `list` stands in the fronts of two lists, its codes in the one and its counts in the other; what is behind
-- them is as it was. The answer is how many entries it has.
pub record Counted (list one two : List ℕ) (r : ℕ) (one' two' : List ℕ) : Type 0 where
  pub entries : r ≡ length (tally list)
  pub its_codes : one' ≡ codes (tally list) ++ drop r one
  pub its_counts : two' ≡ counts (tally list) ++ drop r two
