-- Bytes compared.
-- Assumes nothing.
use Rattle.std.specs.Prelude.{ℕ, ◌≤◌, ◌≡◌, Bool, cond, List, [], ◌∷◌, ltb, eqb, length, drop}
use Rattle.std.specs.declared.cmp.Ordering.{Ordering}
use Rattle.std.specs.declared.cmp.Ordering.TheVariants.{Less, Equal, Greater}

-- "compared as bytes": 0 the same, 1 the first below the second, 2 above it
abbrev pub order : List ℕ → List ℕ → ℕ
order [] [] = 0
order [] (y ∷ ys) = 1
order (x ∷ xs) [] = 2
order (x ∷ xs) (y ∷ ys) = cond (ltb x y) 1 (cond (ltb y x) 2 (order xs ys))

-- the same as the library says it
abbrev pub ordering : ℕ → Ordering
ordering n = cond (eqb n 0) Equal (cond (eqb n 1) Less Greater)

-- a front that both have, so that what is behind it decides
pub record SameFront (a b : List ℕ) (n : ℕ) : Type 0 where
  pub in_a : n ≤ length a
  pub in_b : n ≤ length b
  pub decided : order a b ≡ order (drop n a) (drop n b)

abbrev pub same : List ℕ → List ℕ → Bool
same a b = eqb (order a b) 0

abbrev pub above : List ℕ → List ℕ → Bool
above a b = eqb (order a b) 2
