-- Laws of owners and followers, by the place of the owner.
-- Assumes nothing.
use Prim.Native.Nat.{ℕ, ◌+◌, ◌-◌, ◌≤◌}
use mathlib.Core.Path.{◌≡◌, refl, sym, ◌∙◌}
use mathlib.Core.Bool.{Bool, true, false, cond, not, ◌&&◌, ◌||◌}
use mathlib.Core.List.{List, [], ◌∷◌}
use native.Mathlib.Omega.{arith}
use borrow.Author.Tests.{eqb-true, eqb-false, eq-eqb, ne_eqb}
use lib.Dec.{eqb}
use lib.ListN.{get_or}
use Rattle.field.specs.Test.{every, only}
use Rattle.field.specs.Digits.{digit, digit_value, zero_digit}
use Rattle.field.specs.Text.{part}
use Rattle.field.proofs.Tests.{and_left, and_right}
use Rattle.field.proofs.Texts.{part-bound}
use Rattle.field.proofs.Values.{digit-again, whole-zero}
use Rattle.file_record.specs.Parts.{record_at}
use Rattle.file_record.specs.Names.Point
use Rattle.file_compare.specs.Order.{same}
use Rattle.file.specs.Formats.{needed, follows, placed, placed_at}
use Rattle.file.specs.Viewed.{Viewed}

-- an owner and the record behind it are compared, whichever of them is asked about
pub placed_by : (file : List ℕ) (i : ℕ) → 1 ≤ i → (own : Bool) → eqb (get_or (record_at Point.width file i) Point.type 0) 49 ≡ own
    → (own && eqb (needed (record_at Point.width file (cond own i (i - 1)))) 0)
    || follows (record_at Point.width file (cond own i (i - 1))) (record_at Point.width file (cond own i (i - 1) + 1))
    ≡ placed_at file i
unfolding placed
placed_by file i low true e = rw e refl
placed_by file i low false e =
    let here : i - 1 + 1 ≡ i = omega arith in
    rw (e, here) refl

-- a digit adds nothing where it is a 0
zero-digit : (x : ℕ) → digit x ≡ true → eqb x 48 ≡ zero_digit x
zero-digit x e = by-test (eqb x 48) refl
  where
    by-test : (t : Bool) → eqb x 48 ≡ t → t ≡ eqb (digit_value x) 0
    by-test true h = sym (eq-eqb (digit_value x) 0 (omega (arith, eqb-true x 48 h, digit-again x e)))
    by-test false h = sym (ne_eqb (digit_value x) 0 (λ z. eqb-false x 48 h (omega (arith, z, digit-again x e))))

zero-digits : (s : List ℕ) → every digit s ≡ true → only 48 s ≡ every zero_digit s
zero-digits [] e = refl
zero-digits (x ∷ s) e =
    rw (zero-digit x (and_left (digit x) (every digit s) e), zero-digits s (and_right (digit x) (every digit s) e)) refl

-- what a view needs next: eight bytes say whether its key is zero
pub view-needs : (view : List ℕ) → Viewed view
    → cond (eqb (get_or view Point.postcode_type 0) 76) 51 (cond (only 48 (part view Point.organisation_key Point.letter)) 0 50)
    ≡ needed view
unfolding needed
view-needs view v =
    let key = part view Point.organisation_key Point.letter in
    rw (v.view, zero-digits key v.digits ∙ whole-zero key (omega (arith, part-bound view 32 40))) refl

-- a view that needs nothing next, or is known to have it
pub followed-by : (view next : List ℕ) (need : ℕ) (alike : Bool) → need ≡ needed view
    → (alike ≡ true → same (part next 0 Point.type) (part view 0 Point.type) ≡ true)
    → eqb need 0 || (eqb (get_or next Point.type 0) need && alike) ≡ true
    → eqb (needed view) 0 || follows view next ≡ true
unfolding follows
followed-by view next need alike is known e = rw is at (by-test (eqb need 0) refl e)
  where
    by-test : (t : Bool) → eqb need 0 ≡ t → t || (eqb (get_or next Point.type 0) need && alike) ≡ true
        → t || (not t && (eqb (get_or next Point.type 0) need && same (part next 0 Point.type) (part view 0 Point.type))) ≡ true
    by-test true h e = refl
    by-test false h e =
        rw (and_left (eqb (get_or next Point.type 0) need) alike e, known (and_right (eqb (get_or next Point.type 0) need) alike e)) refl
