-- Marks for places: a bit for each, 32 in a number.
-- Assumes nothing.
use Rattle.std.specs.Prelude.{ℕ, zero, suc, ◌-◌, ◌/◌, ◌%◌, ◌^◌, ◌≡◌, Bool, false, cond, List, eqb, get_or}

-- the bits of a place and of those behind it in the same number, the place's own as the lowest
abbrev pub bits_from : List ℕ → ℕ → ℕ
bits_from bits o = get_or bits (o / 32) 0 / 2 ^ (o % 32)

-- how many places may be passed from one that is not marked
abbrev pub passed_from : (left o : ℕ) → ℕ
passed_from left o = cond (eqb left 0) (32 - o % 32) 1

-- whether the bit of a place is set
unfoldable pub marked : List ℕ → ℕ → Bool
marked bits o = eqb (bits_from bits o % 2) 1

abbrev pub Unmarked : List ℕ → Type 0
Unmarked bits = (o : ℕ) → marked bits o ≡ false

-- the first marked one of k places from i on; `last` where there is none
abbrev pub first_marked : List ℕ → (last k i : ℕ) → ℕ
first_marked bits last zero i = last
first_marked bits last (suc k) i = cond (marked bits i) i (first_marked bits last k (suc i))

-- the first marked place from `from` on below `last`; `last` where there is none
unfoldable pub next_marked : List ℕ → (from last : ℕ) → ℕ
next_marked bits from last = first_marked bits last (last - from) from
