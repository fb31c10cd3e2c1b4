-- The letter rules of an outward code (document 02, No. 4): "three rows of 26 marks, A to Z, one for each letter position".
-- Assumes nothing.
use Rattle.std.specs.Prelude.{ℕ, ◌-◌, Bool, ◌&&◌, List, [], ◌∷◌, eqb, get_or}
use Rattle.field.specs.Text.{letter}

-- the marks, which the code writes as plus and minus: a letter that may stand there, and one that may not
abbrev pub ● : ℕ
● = 43

abbrev pub ○ : ℕ
○ = 45

-- "the first is not Q, V, X"
--  A   B   C   D   E   F   G   H   I   J   K   L   M   N   O   P   Q   R   S   T   U   V   W   X   Y   Z
abbrev pub first_row : List ℕ
first_row =
    ● ∷ ● ∷ ● ∷ ● ∷ ● ∷ ● ∷ ● ∷ ● ∷ ● ∷ ● ∷ ● ∷ ● ∷ ● ∷ ● ∷ ● ∷ ● ∷ ○ ∷ ● ∷ ● ∷ ● ∷ ● ∷ ○ ∷ ● ∷ ○ ∷ ● ∷ ● ∷ []

-- "the second not I, Z"
--  A   B   C   D   E   F   G   H   I   J   K   L   M   N   O   P   Q   R   S   T   U   V   W   X   Y   Z
abbrev pub second_row : List ℕ
second_row =
    ● ∷ ● ∷ ● ∷ ● ∷ ● ∷ ● ∷ ● ∷ ● ∷ ○ ∷ ● ∷ ● ∷ ● ∷ ● ∷ ● ∷ ● ∷ ● ∷ ● ∷ ● ∷ ● ∷ ● ∷ ● ∷ ● ∷ ● ∷ ● ∷ ● ∷ ○ ∷ []

-- "a third is one of A B C D E F G H J K M N P R S T U V W X Y"
--  A   B   C   D   E   F   G   H   I   J   K   L   M   N   O   P   Q   R   S   T   U   V   W   X   Y   Z
abbrev pub third_row : List ℕ
third_row =
    ● ∷ ● ∷ ● ∷ ● ∷ ● ∷ ● ∷ ● ∷ ● ∷ ○ ∷ ● ∷ ● ∷ ○ ∷ ● ∷ ● ∷ ○ ∷ ● ∷ ○ ∷ ● ∷ ● ∷ ● ∷ ● ∷ ● ∷ ● ∷ ● ∷ ● ∷ ○ ∷ []

-- whether a byte is a letter that may stand, by a row
abbrev pub marked : List ℕ → ℕ → Bool
marked row b = letter b && eqb (get_or row (b - 65) 0) ●
