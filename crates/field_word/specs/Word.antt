-- Bytes as one number.
-- Assumes nothing.
use Rattle.std.specs.Prelude.{◌≡◌, ℕ, zero, suc, ◌+◌, ◌*◌, ◌/◌, ◌%◌, ◌^◌, ◌<◌, List, [], ◌∷◌, ◌++◌, length}

-- the first byte is the least
abbrev pub word : List ℕ → ℕ
word [] = 0
word (x ∷ xs) = x + 256 * word xs

-- the first byte is the weightiest
abbrev pub weight : List ℕ → ℕ
weight [] = 0
weight (x ∷ xs) = x * 256 ^ length xs + weight xs

-- the last n digits of a number, as bytes
abbrev pub digits_of : ℕ → ℕ → List ℕ
digits_of zero v = []
digits_of (suc n) v = digits_of n (v / 10) ++ ((48 + v % 10) ∷ [])

abbrev pub Bytes : List ℕ → Type 0
Bytes [] = Unit {0}
Bytes (x ∷ xs) = (x < 256) × Bytes xs

-- the number that some bytes are
pub record Word (bytes : List ℕ) (r : ℕ) : Type 0 where
  pub is : r ≡ word bytes
  pub small : Bytes bytes

pub record Weight (bytes : List ℕ) (r : ℕ) : Type 0 where
  pub is : r ≡ weight bytes
  pub small : Bytes bytes
