-- Laws of lists one behind the other, and of neighbouring parts of a record.
-- Assumes nothing.
use Prim.Native.Nat.{ℕ, ◌+◌, ◌-◌, ◌≤◌}
use mathlib.Core.Path.{◌≡◌, refl, ap, ◌∙◌}
use mathlib.Core.Bool.{Bool, true}
use mathlib.Core.List.{List, [], ◌∷◌, ◌++◌}
use native.Mathlib.Omega.{arith}
use lib.Dec.{eqb}
use lib.ListN.{drop}
use lib.Seq.{take-add, drop-drop}
use Rattle.field.specs.Test.{every}
use Rattle.field.specs.Text.{blank, keep, trim, part, text_in}
use Rattle.field.proofs.Tests.{and_left, and_right}

pub every_append : (ok : ℕ → Bool) (xs ys : List ℕ) → every ok xs ≡ true → every ok ys ≡ true → every ok (xs ++ ys) ≡ true
every_append ok [] ys e f = f
every_append ok (x ∷ xs) ys e f =
    rw (and_left (ok x) (every ok xs) e) (every_append ok xs ys (and_right (ok x) (every ok xs) e) f)

pub every_front : (ok : ℕ → Bool) (xs ys : List ℕ) → every ok (xs ++ ys) ≡ true → every ok xs ≡ true
every_front ok [] ys e = refl
every_front ok (x ∷ xs) ys e =
    rw (and_left (ok x) (every ok (xs ++ ys)) e) (every_front ok xs ys (and_right (ok x) (every ok (xs ++ ys)) e))

pub every_back : (ok : ℕ → Bool) (xs ys : List ℕ) → every ok (xs ++ ys) ≡ true → every ok ys ≡ true
every_back ok [] ys e = e
every_back ok (x ∷ xs) ys e = every_back ok xs ys (and_right (ok x) (every ok (xs ++ ys)) e)

-- spaces at the end go
blank-trim : (s : List ℕ) → blank s ≡ true → trim s ≡ []
blank-trim [] e = refl
blank-trim (x ∷ xs) e =
    rw (and_left (eqb x 32) (blank xs) e, blank-trim xs (and_right (eqb x 32) (blank xs) e)) refl

trim-spaces : (s t : List ℕ) → blank t ≡ true → trim (s ++ t) ≡ trim s
trim-spaces [] t e = blank-trim t e
trim-spaces (x ∷ xs) t e = ap (keep (eqb x 32) x) (trim-spaces xs t e)

module _ (rec : List ℕ) (start middle end : ℕ) (low : start ≤ middle) (high : middle ≤ end) where
  -- two neighbouring parts are one
  pub part_join : part rec start end ≡ part rec start middle ++ part rec middle end
  part_join =
      let size : end - start ≡ (middle - start) + (end - middle) = omega arith in
      let place_of : start + (middle - start) ≡ middle = omega arith in
      rw (size, take-add (middle - start) (end - middle) (drop start rec), drop-drop (middle - start) start rec, place_of)

  -- a text without the spaces behind it
  pub text-spaces : blank (part rec middle end) ≡ true → text_in rec start end ≡ text_in rec start middle
  unfolding text_in
  text-spaces e = ap trim part_join ∙ trim-spaces (part rec start middle) (part rec middle end) e
