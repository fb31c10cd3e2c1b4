-- Fields that are joined are read back, whatever stands behind the row: none has a comma or a CR.
-- Assumes nothing.
use Prim.Native.Nat.{ℕ, ◌<◌}
use mathlib.Core.Path.{◌≡◌, refl, ap, ◌∙◌}
use mathlib.Core.Bool.{Bool, true, false, not, ◌&&◌}
use mathlib.Core.List.{List, [], ◌∷◌, ◌++◌, append-nil, append_assoc}
use native.Mathlib.Omega.{arith}
use borrow.Author.Tests.{not-true}
use lib.Dec.{eqb}
use lib.ListN.{length}
use Rattle.field.specs.Test.{every}
use Rattle.field.proofs.Tests.{and_left, and_right}
use Rattle.csv_paf.specs.Row.{joined}
use Rattle.csv_paf.specs.File.{onto, fields_of, is_ended, behind_row, rows_of}
use Rattle.csv_paf.proofs.Rows.{rows-ended}

-- a byte that neither ends a field nor begins the end of a row
abbrev pub in_field : ℕ → Bool
in_field b = not (eqb b 44) && not (eqb b 13)

abbrev pub InFields : List (List ℕ) → Type 0
InFields [] = Unit {0}
InFields (f ∷ fs) = (every in_field f ≡ true) × InFields fs

no-comma : (b : ℕ) → in_field b ≡ true → eqb b 44 ≡ false
no-comma b e = not-true (eqb b 44) (and_left (not (eqb b 44)) (not (eqb b 13)) e)

no_return : (b : ℕ) → in_field b ≡ true → eqb b 13 ≡ false
no_return b e = not-true (eqb b 13) (and_right (not (eqb b 44)) (not (eqb b 13)) e)

-- such bytes before others belong to the first field of these
module _ (rest : List ℕ) where
  pub fields-on : (f first : List ℕ) (more : List (List ℕ)) → every in_field f ≡ true → fields_of rest ≡ first ∷ more
      → fields_of (f ++ rest) ≡ (f ++ first) ∷ more
  fields-on [] first more e is = is
  fields-on (x ∷ xs) first more e is =
      let here = and_left (in_field x) (every in_field xs) e in
      let later = fields-on xs first more (and_right (in_field x) (every in_field xs) e) is in
      simp (no_return x here, no-comma x here) (ap (onto x) later)

  pub ended-on : (f : List ℕ) → every in_field f ≡ true → is_ended (f ++ rest) ≡ is_ended rest
  ended-on [] e = refl
  ended-on (x ∷ xs) e =
      simp (no_return x (and_left (in_field x) (every in_field xs) e))
      (ended-on xs (and_right (in_field x) (every in_field xs) e))

  pub behind-on : (f : List ℕ) → every in_field f ≡ true → behind_row (f ++ rest) ≡ behind_row rest
  behind-on [] e = refl
  behind-on (x ∷ xs) e =
      simp (no_return x (and_left (in_field x) (every in_field xs) e))
      (behind-on xs (and_right (in_field x) (every in_field xs) e))

-- a row of these fields
module _ (rest : List ℕ) where
  abbrev row : List (List ℕ) → List ℕ
  row fs = joined fs ++ rest

  pub fields_back : (fs : List (List ℕ)) → 0 < length fs → InFields fs → fields_of (row fs) ≡ fs
  fields_back [] n h = absurd (omega arith)
  fields_back (f ∷ []) n h =
      rw (append_assoc f (13 ∷ 10 ∷ []) rest)
      (fields-on (13 ∷ 10 ∷ rest) f [] [] h.0 refl ∙ ap (λ (z : List ℕ). z ∷ []) (append-nil f))
  fields_back (f ∷ g ∷ fs) n h =
      let later = fields_back (g ∷ fs) (omega arith) h.1 in
      rw (append_assoc f (44 ∷ joined (g ∷ fs)) rest)
      (fields-on (44 ∷ row (g ∷ fs)) f [] (g ∷ fs) h.0 (ap (λ (z : List (List ℕ)). [] ∷ z) later)
      ∙ ap (λ (z : List ℕ). z ∷ g ∷ fs) (append-nil f))

  pub ended-back : (fs : List (List ℕ)) → InFields fs → is_ended (row fs) ≡ true
  ended-back [] h = refl
  ended-back (f ∷ []) h = rw (append_assoc f (13 ∷ 10 ∷ []) rest) (ended-on (13 ∷ 10 ∷ rest) f h.0)
  ended-back (f ∷ g ∷ fs) h =
      rw (append_assoc f (44 ∷ joined (g ∷ fs)) rest)
      (ended-on (44 ∷ row (g ∷ fs)) f h.0 ∙ ended-back (g ∷ fs) h.1)

  pub behind-back : (fs : List (List ℕ)) → InFields fs → behind_row (row fs) ≡ rest
  behind-back [] h = refl
  behind-back (f ∷ []) h = rw (append_assoc f (13 ∷ 10 ∷ []) rest) (behind-on (13 ∷ 10 ∷ rest) f h.0)
  behind-back (f ∷ g ∷ fs) h =
      rw (append_assoc f (44 ∷ joined (g ∷ fs)) rest)
      (behind-on (44 ∷ row (g ∷ fs)) f h.0 ∙ behind-back (g ∷ fs) h.1)

  -- is the first row, and what stands behind it gives the others
  pub rows_back : (fs : List (List ℕ)) → InFields fs → rows_of (row fs) ≡ row fs ∷ rows_of rest
  rows_back fs h =
      rows-ended (row fs) (ended-back fs h) ∙ ap (λ (z : List ℕ). row fs ∷ rows_of z) (behind-back fs h)
