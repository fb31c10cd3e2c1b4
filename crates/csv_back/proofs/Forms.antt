-- The forms of fields that depend on another field, or have one byte.
-- Assumes nothing.
use Prim.Native.Nat.{ℕ}
use mathlib.Core.Path.{◌≡◌, refl, sym}
use mathlib.Core.Bool.{Bool, true, false, cond, not, ◌&&◌, ◌||◌, true≢false}
use mathlib.Core.List.{List, [], ◌∷◌}
use native.Mathlib.Omega.{arith}
use borrow.Author.Tests.{ltb-true, ltb-false, eq-eqb, ne_eqb, eqb-true}
use lib.Dec.{eqb, ltb}
use Rattle.field.specs.Test.{elem}
use Rattle.field.proofs.Tests.{or-false}
use Rattle.file_compare.specs.Order.{same}
use Rattle.label.specs.Lines.{is_empty}
use Rattle.csv_paf.specs.Row.{indicator_mark}
use Rattle.csv_paf.specs.File.{is_filled, is_type, is_indicator, double_form, organisation_form}
use Rattle.csv_back.proofs.Texts.{Whole, whole-text, whole-filled, whole-blank}

-- one byte is the same as another
one_same : (x y : ℕ) → same (x ∷ []) (y ∷ []) ≡ eqb x y
one_same x y = by_tests (ltb x y) (ltb y x) refl refl
  where
    by_tests : (t u : Bool) → ltb x y ≡ t → ltb y x ≡ u → eqb (cond t 1 (cond u 2 0)) 0 ≡ eqb x y
    by_tests true u p q = sym (ne_eqb x y (λ e. omega (arith, ltb-true x y p)))
    by_tests false true p q = sym (ne_eqb x y (λ e. omega (arith, ltb-true y x q)))
    by_tests false false p q = sym (eq-eqb x y (omega (arith, ltb-false x y p, ltb-false y x q)))

pub type-held : (type : ℕ) → elem type (83 ∷ 76 ∷ []) ≡ true → is_type (type ∷ []) ≡ true
type-held type e = rw (one_same type 83, one_same type 76) (simp or-false at e)

pub indicator-held : (y : Bool) → is_indicator (indicator_mark y ∷ []) ≡ true
indicator-held true = refl
indicator-held false = refl

-- "a double dependent locality needs a dependent one"
pub double-held : (dependent f : List ℕ) → Whole dependent → Whole f → not (is_empty dependent) || is_empty f ≡ true
    → double_form dependent f ≡ true
double-held dependent f d w own =
    rw (whole-blank dependent d, whole-blank f w, whole-text f w) (either (is_empty dependent) (is_empty f) own)
  where
    either : (t u : Bool) → not t || u ≡ true → cond t u true ≡ true
    either true u e = e
    either false u e = refl

-- "A type S with a department and no organisation name is 14 at field 12"
pub organisation-held : (type : ℕ) (department f : List ℕ) → Whole department → Whole f
    → (type ≡ 83 → not (is_empty f) || is_empty department ≡ true)
    → organisation_form department (type ∷ []) f ≡ true
organisation-held type department f d w named =
    rw (whole-blank department d, one_same type 83, whole-text f w)
    (by_tests (is_empty department) (eqb type 83) (is_empty f) refl refl
    (λ (is : eqb type 83 ≡ true). named (eqb-true type 83 is)) (whole-filled f w))
  where
    by_tests : (t u v : Bool) → eqb type 83 ≡ u → is_empty f ≡ v → (eqb type 83 ≡ true → not v || t ≡ true)
        → (is_empty f ≡ false → is_filled f ≡ true)
        → cond (not t && u) (is_filled f) true ≡ true
    by_tests true u v p q own fill = refl
    by_tests false false v p q own fill = refl
    by_tests false true true p q own fill = absurd (true≢false (sym (own p)))
    by_tests false true false p q own fill = fill q
