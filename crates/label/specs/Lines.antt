-- The lines of a label, from its elements: "Lines in order". An empty text is absent, and so is the number 0.
-- Assumes nothing.
use Rattle.std.specs.Prelude.{ℕ, ◌+◌, ◌/◌, ◌%◌, Bool, true, false, cond, List, [], ◌∷◌, ◌++◌, eqb, ltb}
use Rattle.field.specs.Text.{numeric_like}
use Rattle.source.specs.Address.{Elements}

abbrev pub is_empty : List ℕ → Bool
is_empty [] = true
is_empty (x ∷ xs) = false

-- "Absent ones give no line"
abbrev pub line : List ℕ → List (List ℕ)
line [] = []
line (x ∷ xs) = (x ∷ xs) ∷ []

-- "`PO BOX `, then the box"
abbrev pub box_line : List ℕ → List (List ℕ)
box_line [] = []
box_line (x ∷ xs) = (80 ∷ 79 ∷ 32 ∷ 66 ∷ 79 ∷ 88 ∷ 32 ∷ x ∷ xs) ∷ []

-- two texts with a space between
abbrev pub spaced : List ℕ → List ℕ → List ℕ
spaced a b = a ++ (32 ∷ b)

-- "A thoroughfare is its name, and with a descriptor a space and that"
abbrev pub street : List ℕ → List ℕ → List ℕ
street name [] = name
street name (x ∷ xs) = spaced name (x ∷ xs)

-- "The number prints without leading zeros"; of at most four digits
unfoldable pub number_text : ℕ → List ℕ
number_text n =
    cond (eqb n 0) []
    (cond (ltb n 10) ((48 + n) ∷ [])
    (cond (ltb n 100) ((48 + n / 10) ∷ (48 + n % 10) ∷ [])
    (cond (ltb n 1000) ((48 + n / 100) ∷ (48 + n / 10 % 10) ∷ (48 + n % 10) ∷ [])
    ((48 + n / 1000) ∷ (48 + n / 100 % 10) ∷ (48 + n / 10 % 10) ∷ (48 + n % 10) ∷ []))))

-- which row of the table of premises applies, and what it gives: the premises lines, and the front
pub record Premises : Type 0 where
  pub lines : List (List ℕ)
  pub front : List ℕ

abbrev pub premises : List (List ℕ) → List ℕ → Premises
premises ls f = record { lines = ls; front = f }

-- "With s the sub building, b the building name and n the number": the table, row by row, by what is present
abbrev pub table : (s b n : List ℕ) → Bool → Premises
table [] [] n y = premises [] n
table [] (b ∷ bs) [] y = cond (numeric_like (b ∷ bs)) (premises [] (b ∷ bs)) (premises ((b ∷ bs) ∷ []) [])
table [] (b ∷ bs) (n ∷ ns) y = premises ((b ∷ bs) ∷ []) (n ∷ ns)
table (s ∷ ss) [] n y = cond y (premises [] (n ++ (s ∷ ss))) (premises ((s ∷ ss) ∷ []) n)
table (s ∷ ss) (b ∷ bs) [] y =
    cond (numeric_like (s ∷ ss))
    (cond (numeric_like (b ∷ bs)) (premises [] (spaced (s ∷ ss) (b ∷ bs))) (premises (spaced (s ∷ ss) (b ∷ bs) ∷ []) []))
    (cond (numeric_like (b ∷ bs)) (premises ((s ∷ ss) ∷ []) (b ∷ bs)) (premises ((s ∷ ss) ∷ (b ∷ bs) ∷ []) []))
table (s ∷ ss) (b ∷ bs) (n ∷ ns) y =
    cond (numeric_like (s ∷ ss)) (premises (spaced (s ∷ ss) (b ∷ bs) ∷ []) (n ∷ ns))
    (premises ((s ∷ ss) ∷ (b ∷ bs) ∷ []) (n ∷ ns))

-- "`front` goes before the first of the lines from dependent thoroughfare to post town, with one space"
abbrev pub fronted : List ℕ → List (List ℕ) → List (List ℕ)
fronted [] ls = ls
fronted (f ∷ fs) [] = []
fronted (f ∷ fs) (l ∷ ls) = spaced (f ∷ fs) l ∷ ls

-- a thoroughfare without a name gives no line
abbrev pub street_line : List ℕ → List ℕ → List (List ℕ)
street_line [] descriptor = []
street_line (x ∷ xs) descriptor = street (x ∷ xs) descriptor ∷ []

-- "dependent thoroughfare; thoroughfare; double dependent locality; dependent locality; post town"
abbrev pub places : Elements → List (List ℕ)
places e =
    street_line e.dependent e.dependent_descriptor
    ++ (street_line e.thoroughfare e.descriptor
    ++ (line e.double_locality ++ (line e.dependent_locality ++ line e.town)))

abbrev pub premises_of : Elements → Premises
premises_of e = table e.sub_building e.building (number_text e.number) e.concatenation

-- all lines: "organisation; department; `PO BOX `, then the box; premises lines; dependent thoroughfare; thoroughfare;
-- double dependent locality; dependent locality; post town; postcode as outward, space, inward"
unfoldable pub lines_of : Elements → List (List ℕ)
lines_of e =
    line e.organisation
    ++ (line e.department
    ++ (box_line e.box
    ++ ((premises_of e).lines
    ++ (fronted (premises_of e).front (places e) ++ (spaced e.outward e.inward ∷ [])))))
