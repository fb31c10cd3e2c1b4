-- Tallies computed. A code is the number of its four bytes: AB1 is 41 42 31 20, EC1N 45 43 31 4E and W1A 57 31 41 20.
-- Assumes nothing.
use Prim.Native.Nat.{ℕ}
use mathlib.Core.Path.{◌≡◌, refl}
use mathlib.Core.List.{[], ◌∷◌}
use Rattle.tally.specs.Order.{sorted}
use Rattle.tally.specs.Tally.{Entry, add, tally}

entry : ℕ → ℕ → Entry
entry c n = record { code = c; count = n }

-- numbers put in order, of which two are the same
in_order : sorted (3 ∷ 1 ∷ 4 ∷ 1 ∷ 5 ∷ []) ≡ 1 ∷ 1 ∷ 3 ∷ 4 ∷ 5 ∷ []
in_order = refl

-- no code, one code, and five of three codes
none : tally [] ≡ []
none = refl

one : tally (0x41423120 ∷ []) ≡ entry 0x41423120 1 ∷ []
unfolding entry
one = refl

five : tally (0x4543314E ∷ 0x41423120 ∷ 0x57314120 ∷ 0x41423120 ∷ 0x41423120 ∷ [])
    ≡ entry 0x41423120 3 ∷ entry 0x4543314E 1 ∷ entry 0x57314120 1 ∷ []
unfolding entry
five = refl

-- many of a code added: to its entry, before the first above it, and behind all
same : add 7 10 (entry 4 1 ∷ entry 7 2 ∷ entry 9 3 ∷ []) ≡ entry 4 1 ∷ entry 7 12 ∷ entry 9 3 ∷ []
unfolding entry
same = refl

between : add 8 10 (entry 4 1 ∷ entry 7 2 ∷ entry 9 3 ∷ []) ≡ entry 4 1 ∷ entry 7 2 ∷ entry 8 10 ∷ entry 9 3 ∷ []
unfolding entry
between = refl

behind : add 10 10 (entry 4 1 ∷ entry 7 2 ∷ entry 9 3 ∷ []) ≡ entry 4 1 ∷ entry 7 2 ∷ entry 9 3 ∷ entry 10 10 ∷ []
unfolding entry
behind = refl
