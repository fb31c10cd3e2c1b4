-- Laws of the forms of fields, in the order in which the code asks.
-- Assumes nothing.
use Prim.Native.Nat.{ℕ, zero, suc, ◌+◌, ◌-◌, ◌≤◌, ◌<◌}
use mathlib.Core.Path.{◌≡◌, refl, sym, ap, ◌∙◌}
use mathlib.Core.Bool.{Bool, true, false, cond, ◌&&◌}
use mathlib.Core.List.{List, [], ◌∷◌}
use native.Mathlib.Omega.{arith}
use borrow.Author.Tests.{lt-leb, le-leb, ne_eqb}
use lib.Dec.{eqb}
use lib.ListN.{length, take, drop, get_or, length-drop}
use lib.Seq.{take_all, get_or-drop}
use Rattle.field.specs.Text.{blank}
use Rattle.field_outward.specs.Inward.{inward_fault}
use Rattle.file_compare.specs.Order.{same}
use Rattle.csv_paf.specs.File.{padded, is_outward, is_postcode, is_text, is_filled, outward_in, inward_in, double_form, organisation_form, forms_for}
use Rattle.csv_read.specs.Judged.{no_form}

-- ---- a postcode

pub get_d-there : (s : List ℕ) (i d e : ℕ) → i < length s → get_or s i d ≡ get_or s i e
get_d-there [] i d e h = absurd (omega (arith, h))
get_d-there (x ∷ xs) zero d e h = refl
get_d-there (x ∷ xs) (suc i) d e h = get_d-there xs i d e (omega (arith, h))

pub get_d-none : (s : List ℕ) (i d : ℕ) → length s ≤ i → get_or s i d ≡ d
get_d-none [] i d h = refl
get_d-none (x ∷ xs) zero d h = absurd (omega (arith, h))
get_d-none (x ∷ xs) (suc i) d h = get_d-none xs i d (omega (arith, h))

pub padded-four : (a b : ℕ) (o : List ℕ) (p q : ℕ)
    → p ≡ get_or (a ∷ b ∷ o) 2 32 → q ≡ get_or (a ∷ b ∷ o) 3 32 → a ∷ b ∷ p ∷ q ∷ [] ≡ padded (a ∷ b ∷ o)
padded-four a b [] p q e f = rw (e, f) refl
padded-four a b (c ∷ []) p q e f = rw (e, f) refl
padded-four a b (c ∷ d ∷ o) p q e f = rw (e, f) refl

pub code_is : (o : List ℕ) (p q : ℕ) → 2 ≤ length o → p ≡ get_or o 2 32 → q ≡ get_or o 3 32
    → get_or o 0 0 ∷ get_or o 1 0 ∷ p ∷ q ∷ [] ≡ padded o
code_is [] p q h e f = absurd (omega (arith, h))
code_is (a ∷ []) p q h e f = absurd (omega (arith, h))
code_is (a ∷ b ∷ o) p q h e f = padded-four a b o p q e f

pub postcode-short : (f : List ℕ) → length f < 6 → false ≡ is_postcode f
unfolding is_postcode
postcode-short f h = rw (lt-leb 6 (length f) h) refl

pub postcode-long : (f : List ℕ) → 6 ≤ length f → 8 < length f → false ≡ is_postcode f
unfolding is_postcode
postcode-long f h l = rw (le-leb 6 (length f) h, lt-leb (length f) 8 l) refl

pub postcode-told : (f : List ℕ) (outward inward : Bool) → 6 ≤ length f → length f ≤ 8
    → outward ≡ is_outward (outward_in f) → inward ≡ eqb (inward_fault (inward_in f)) 0
    → eqb (get_or f (length f - 4) 0) 32 && (outward && inward) ≡ is_postcode f
unfolding is_postcode
postcode-told f outward inward h l e g = rw (le-leb 6 (length f) h, le-leb (length f) 8 l, e, g) refl

-- ---- a double dependent locality, an organisation

pub double-alone : (dependent f : List ℕ) → true ≡ blank dependent → blank f ≡ double_form dependent f
double-alone dependent f e = ap (λ (t : Bool). cond t (blank f) (is_text f)) e

pub double-beside : (dependent f : List ℕ) → false ≡ blank dependent → is_text f ≡ double_form dependent f
double-beside dependent f e = ap (λ (t : Bool). cond t (blank f) (is_text f)) e

module _ (department type f : List ℕ) where
  pub organisation-alone : true ≡ blank department → is_text f ≡ organisation_form department type f
  organisation-alone e = rw (sym e) refl

  pub organisation-small : false ≡ blank department → same type (83 ∷ []) ≡ true
      → is_filled f ≡ organisation_form department type f
  organisation-small e s = rw (sym e, s) refl

  pub organisation-other : false ≡ blank department → same type (83 ∷ []) ≡ false
      → is_text f ≡ organisation_form department type f
  organisation-other e s = rw (sym e, s) refl

-- ---- the form of a field by its number

-- that of a field with none of these numbers is a text
pub form-text : (fields : List (List ℕ)) (n : ℕ) → n < 16 → (n ≡ 0 → ⊥) → (n ≡ 1 → ⊥) → (n ≡ 3 → ⊥) → (n ≡ 6 → ⊥)
    → (n ≡ 11 → ⊥) → (n ≡ 12 → ⊥) → (n ≡ 13 → ⊥) → (n ≡ 14 → ⊥) → (n ≡ 15 → ⊥)
    → get_or (forms_for fields) n no_form ≡ is_text
form-text fields zero h a b c d e f g i j = absurd (a refl)
form-text fields (suc zero) h a b c d e f g i j = absurd (b refl)
form-text fields (suc (suc zero)) h a b c d e f g i j = refl
form-text fields (suc (suc (suc zero))) h a b c d e f g i j = absurd (c refl)
form-text fields (suc (suc (suc (suc zero)))) h a b c d e f g i j = refl
form-text fields (suc (suc (suc (suc (suc zero))))) h a b c d e f g i j = refl
form-text fields (suc (suc (suc (suc (suc (suc zero)))))) h a b c d e f g i j = absurd (d refl)
form-text fields (suc (suc (suc (suc (suc (suc (suc zero))))))) h a b c d e f g i j = refl
form-text fields (suc (suc (suc (suc (suc (suc (suc (suc zero)))))))) h a b c d e f g i j = refl
form-text fields (suc (suc (suc (suc (suc (suc (suc (suc (suc zero))))))))) h a b c d e f g i j = refl
form-text fields (suc (suc (suc (suc (suc (suc (suc (suc (suc (suc zero)))))))))) h a b c d e f g i j = refl
form-text fields (suc (suc (suc (suc (suc (suc (suc (suc (suc (suc (suc zero))))))))))) h a b c d e f g i j = absurd (e refl)
form-text fields (suc (suc (suc (suc (suc (suc (suc (suc (suc (suc (suc (suc zero)))))))))))) h a b c d e f g i j = absurd (f refl)
form-text fields (suc (suc (suc (suc (suc (suc (suc (suc (suc (suc (suc (suc (suc zero))))))))))))) h a b c d e f g i j = absurd (g refl)
form-text fields (suc (suc (suc (suc (suc (suc (suc (suc (suc (suc (suc (suc (suc (suc zero)))))))))))))) h a b c d e f g i j = absurd (i refl)
form-text fields (suc (suc (suc (suc (suc (suc (suc (suc (suc (suc (suc (suc (suc (suc (suc zero))))))))))))))) h a b c d e f g i j = absurd (j refl)
form-text fields (suc (suc (suc (suc (suc (suc (suc (suc (suc (suc (suc (suc (suc (suc (suc (suc n)))))))))))))))) h a b c d e f g i j = absurd (omega (arith, h))

module _ (fields : List (List ℕ)) {n k : ℕ} (e : n ≡ k) where
  pub form-at : (f : List ℕ) → get_or (forms_for fields) k no_form f ≡ get_or (forms_for fields) n no_form f
  form-at f = ap (λ (m : ℕ). get_or (forms_for fields) m no_form f) (sym e)

  pub before_at : {alone : Bool} → alone ≡ blank (get_or ([] ∷ fields) n []) → alone ≡ blank (get_or ([] ∷ fields) k [])
  before_at b = b ∙ ap (λ (m : ℕ). blank (get_or ([] ∷ fields) m [])) e

  pub ahead-at : {rest : List (List ℕ)} → drop n fields ≡ rest → get_or fields (k + 2) [] ≡ get_or rest 2 []
  ahead-at d = sym (get_or-drop k fields 2 []) ∙ ap (λ (s : List (List ℕ)). get_or s 2 []) (ap (λ (m : ℕ). drop m fields) (sym e) ∙ d)

-- ---- a slice up to the end, and no bytes

pub to_end : (s : List ℕ) (at : ℕ) → take (length s - at) (drop at s) ≡ drop at s
to_end s at = take_all (length s - at) (drop at s) (omega (arith, length-drop at s))

pub same_none : (f : List ℕ) → eqb (length f) 0 ≡ same f []
same_none [] = refl
same_none (x ∷ xs) = ne_eqb (suc (length xs)) 0 (λ e. omega arith)
