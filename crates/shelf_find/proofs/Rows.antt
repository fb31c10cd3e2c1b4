-- The rows that seven keys find, one after the other.
-- Assumes nothing.
use Prim.Native.Nat.{ℕ, zero, suc, ◌+◌, ◌≤◌, ◌<◌}
use mathlib.Core.Path.{◌≡◌, refl, sym, ap, subst, ◌∙◌}
use mathlib.Core.Logic.{⊎_elim}
use native.Mathlib.Nat.{eq-or-lt_of_le}
use mathlib.Core.Bool.{cond}
use mathlib.Core.List.{List, [], ◌∷◌}
use native.Mathlib.Omega.{arith}
use lib.ListN.{length, get_or}
use lib.Seq.{ext_get_or}
use Rattle.source.specs.Address.{present, key_kinds, asked_by, ref}
use Rattle.source.specs.Delivery.{rows_for}
use Rattle.std.specs.Array.{IsFromFnResultFrom}
use Rattle.std.specs.Fn.{Called}
use denote.Param.Members.{Mut}

-- what key i of these kinds finds
abbrev pub row_at : (ℕ → ℕ) → (kinds keys : List ℕ) → ℕ → ℕ
row_at row ks ns i = cond (present (get_or ns i 0)) (row (ref (get_or ks i 0) (get_or ns i 0))) 0

module _ (row : ℕ → ℕ) where
  rows_at : (ks ns : List ℕ) (i : ℕ) → i < length ks → i < length ns
      → get_or (rows_for row (asked_by ks ns)) i 0 ≡ row_at row ks ns i
  rows_at [] ns i h l = absurd (omega arith)
  rows_at (k ∷ ks) [] i h l = absurd (omega arith)
  rows_at (k ∷ ks) (n ∷ ns) zero h l = refl
  rows_at (k ∷ ks) (n ∷ ns) (suc i) h l = rows_at ks ns i (omega arith) (omega arith)

  rows_long : (ks ns : List ℕ) → length ks ≡ length ns → length (rows_for row (asked_by ks ns)) ≡ length ks
  rows_long [] ns e = refl
  rows_long (k ∷ ks) [] e = absurd (omega arith)
  rows_long (k ∷ ks) (n ∷ ns) e = ap suc (rows_long ks ns (omega arith))

  -- seven rows that are what seven keys find, each by its place
  pub rows-are : (keys rows : List ℕ) → length keys ≡ 7 → length rows ≡ 7
      → ((i : ℕ) → i < 7 → get_or rows i 0 ≡ row_at row key_kinds keys i)
      → rows ≡ rows_for row (asked_by key_kinds keys)
  rows-are keys rows seven long each =
      ext_get_or 0 rows (rows_for row (asked_by key_kinds keys)) (long ∙ sym (rows_long key_kinds keys (sym seven)))
      (λ i l.
      each i (omega (arith, long)) ∙ sym (rows_at key_kinds keys i (omega (arith, long)) (omega (arith, long))))

-- an array made by calls that leave the closure as it was has what each call gives
module _ {F : Type 0} (g : Mut F (ℕ × Unit {0}) ℕ) (f : F) (h : ℕ → ℕ)
    (call : (i y : ℕ) (q : F) → Called g f (i, tt) y q → (q ≡ f) × (y ≡ h i)) (ys : List ℕ) where
  pub made-each : (n i : ℕ) → IsFromFnResultFrom g f ys i n → (k : ℕ) → i ≤ k → k < i + n → get_or ys k 0 ≡ h k
  made-each zero i made k low high = absurd (omega arith)
  made-each (suc n) i made k low high =
      let step = call i made.1 made.0 made.3 in
      let rest = subst (λ (p : F). IsFromFnResultFrom g p ys (i + 1) n) step.0 made.4 in
      ⊎_elim (λ here. ap (λ (j : ℕ). get_or ys j 0) (sym here) ∙ (made.2.1 0 ∙ (step.1 ∙ ap h here)))
      (λ later. made-each n (i + 1) rest k (omega arith) (omega arith)) (eq-or-lt_of_le low)
