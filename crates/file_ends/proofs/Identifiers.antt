-- Laws of identifiers.
-- Assumes nothing.
use Prim.Native.Nat.{ℕ}
use mathlib.Core.Path.{◌≡◌, refl}
use mathlib.Core.Bool.{Bool, true, false, cond, not}
use mathlib.Core.List.{List}
use lib.Dec.{eqb}
use Rattle.std.specs.Prelude.{is_some}
use Rattle.field.specs.Test.{only}
use Rattle.file_ends.specs.Ends.{identifier, identified}

-- whether there is one
pub is_identified : (proper : ℕ) (s : List ℕ) → is_some (identified (identifier proper s)) ≡ not (eqb (identifier proper s) 0)
unfolding identifier
is_identified proper s = by_tests (only proper s) (only 32 s)
  where
    by_tests : (t u : Bool) → is_some (identified (cond t 1 (cond u 2 0))) ≡ not (eqb (cond t 1 (cond u 2 0)) 0)
    by_tests true u = refl
    by_tests false true = refl
    by_tests false false = refl
