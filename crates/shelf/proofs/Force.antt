-- A record that is in force is the record that was asked.
-- Assumes nothing.
use Prim.Native.Nat.{ℕ, suc, ◌≤◌}
use mathlib.Core.Path.{◌≡◌, refl, sym}
use mathlib.Core.Bool.{Bool, true, false, true≢false, cond, ◌||◌}
use mathlib.Core.List.{List, [], ◌∷◌}
use native.Mathlib.Omega.{arith}
use native.Mathlib.Nat.{le_refl}
use lib.Dec.{eqb}
use lib.ListN.{get_or}
use Rattle.field.specs.Test.{elem}
use Rattle.shelf.specs.declared.Shelf.{Shelf}
use Rattle.shelf.specs.Shelf.{record_of, in_force}

module _ (s : Shelf) (file : List ℕ) (row : ℕ) where
  abbrev letter : ℕ
  letter = get_or (record_of s file row) s.letter 0

  abbrev out : Bool
  out = elem letter (66 ∷ 68 ∷ [])

  pub force-out : eqb letter 66 || eqb letter 68 ≡ true → in_force s file row ≡ 0
  unfolding in_force
  force-out e = by_tests (eqb letter 66) (eqb letter 68) e
    where
      by_tests : (t u : Bool) → t || u ≡ true → cond (t || (u || false)) 0 row ≡ 0
      by_tests true u e = refl
      by_tests false true e = refl
      by_tests false false e = absurd (true≢false (sym e))

  pub force-in : eqb letter 66 || eqb letter 68 ≡ false → in_force s file row ≡ row
  unfolding in_force
  force-in e = by_tests (eqb letter 66) (eqb letter 68) e
    where
      by_tests : (t u : Bool) → t || u ≡ false → cond (t || (u || false)) 0 row ≡ row
      by_tests true u e = absurd (true≢false e)
      by_tests false true e = absurd (true≢false e)
      by_tests false false e = refl

  pub force-low : in_force s file row ≤ row
  unfolding in_force
  force-low = by-test out
    where
      by-test : (t : Bool) → cond t 0 row ≤ row
      by-test true = omega arith
      by-test false = le_refl row

  pub force-some : (p : ℕ) → in_force s file row ≡ suc p → row ≡ suc p
  unfolding in_force
  force-some p e = by-test out e
    where
      by-test : (t : Bool) → cond t 0 row ≡ suc p → row ≡ suc p
      by-test true e = absurd (omega arith)
      by-test false e = e
