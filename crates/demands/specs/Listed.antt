-- Document 01's list of worked cases: what is asked of each, and what the answer has to be.
-- Assumes nothing.
use Rattle.std.specs.Prelude.{ℕ, Bool, true, false, List, [], ◌∷◌, eqb}
use Rattle.field.specs.Text.{numeric_like}
use Rattle.field_outward.specs.Outward.{outward_fault}

-- a code is taken where it has no fault
abbrev pub taken : List ℕ → Bool
taken code = eqb (outward_fault code) 0

-- "numeric-like `1`, `A`, `12A`, `5A`, `110-114`, `12-14A`; not `A1`, `FLAT 1`, `12AB`, `UNIT 12`; outward DN55 and EC1N
-- taken, QA1 and AI1 not"
abbrev pub answers : List Bool
answers =
    numeric_like (49 ∷ [])
    ∷ numeric_like (65 ∷ [])
    ∷ numeric_like (49 ∷ 50 ∷ 65 ∷ [])
    ∷ numeric_like (53 ∷ 65 ∷ [])
    ∷ numeric_like (49 ∷ 49 ∷ 48 ∷ 45 ∷ 49 ∷ 49 ∷ 52 ∷ [])
    ∷ numeric_like (49 ∷ 50 ∷ 45 ∷ 49 ∷ 52 ∷ 65 ∷ [])
    ∷ numeric_like (65 ∷ 49 ∷ [])
    ∷ numeric_like (70 ∷ 76 ∷ 65 ∷ 84 ∷ 32 ∷ 49 ∷ [])
    ∷ numeric_like (49 ∷ 50 ∷ 65 ∷ 66 ∷ [])
    ∷ numeric_like (85 ∷ 78 ∷ 73 ∷ 84 ∷ 32 ∷ 49 ∷ 50 ∷ [])
    ∷ taken (68 ∷ 78 ∷ 53 ∷ 53 ∷ [])
    ∷ taken (69 ∷ 67 ∷ 49 ∷ 78 ∷ [])
    ∷ taken (81 ∷ 65 ∷ 49 ∷ 32 ∷ [])
    ∷ taken (65 ∷ 73 ∷ 49 ∷ 32 ∷ [])
    ∷ []

abbrev pub expected : List Bool
expected =
    true ∷ true ∷ true ∷ true ∷ true ∷ true ∷ false ∷ false ∷ false ∷ false ∷ true ∷ true ∷ false ∷ false ∷ []
