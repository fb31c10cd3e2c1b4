-- Laws of a text of a row, as the code tests it.
-- Assumes nothing.
use Rattle.std.proofs.Common.{◌≡◌, ℕ, ◌+◌, ◌-◌, ◌&&◌, Bool, not, List, [], ◌∷◌, eqb, leb, length, get_or, ap, sym, refl, arith}
use Rattle.std.proofs.lemmas.Grind.{common_steps}
use Rattle.field.specs.Test.{every, first_fault}
use Rattle.field.specs.Text.{text_byte, filled_fault}
use Rattle.field.proofs.Faults.{no-fault, no-fault-every}
use Rattle.field.proofs.Texts.{filled-blank, filled-other}
use Rattle.label.specs.Lines.{is_empty}
use Rattle.pack.specs.Opening.{slot, slots_of, text_good, texts_end, row_kind, row_end}

pub empty-length : (t : List ℕ) → eqb (length t) 0 ≡ is_empty t
empty-length [] = refl
empty-length (x ∷ xs) = grind (arith, common_steps)

pub empty-good : (w : ℕ) (b : Bool) (t : List ℕ) → length t ≡ 0 → text_good (slot w b) t ≡ b
unfolding text_good
empty-good w b [] e = grind (arith, common_steps)
empty-good w b (x ∷ xs) e = absurd (omega arith)

-- a text that is there has no fault as a filled one where its bytes pass and the first is no space
no-fault-test : (t : List ℕ) → eqb (first_fault text_byte t) 0 ≡ every text_byte t
no-fault-test t =
    let good = no-fault text_byte t 1 in
    let bad = no-fault-every text_byte t 0 in
    grind (arith, common_steps)

filled-test : (x : ℕ) (xs : List ℕ) → eqb (filled_fault (x ∷ xs)) 0 ≡ every text_byte (x ∷ xs) && not (eqb x 32)
filled-test x xs =
    let blank = filled-blank (x ∷ xs) in
    let other = filled-other (x ∷ xs) in
    let faults = no-fault-test (x ∷ xs) in
    grind (arith, common_steps)

pub filled-good : (w : ℕ) (b : Bool) (t : List ℕ) → (length t ≡ 0 → ⊥)
    → leb (length t) w && (eqb (filled_fault t) 0 && not (eqb (get_or t (length t - 1) 0) 32)) ≡ text_good (slot w b) t
unfolding text_good
filled-good w b [] n = absurd (n refl)
filled-good w b (x ∷ xs) n = rw (filled-test x xs) (grind (arith, common_steps))

-- a row of a known type ends behind the texts of that type
pub kind-end : (rows : List ℕ) (at k : ℕ) → row_kind rows at ≡ k → texts_end rows (slots_of k) (at + 1) ≡ row_end rows at
kind-end rows at k e = ap (λ k. texts_end rows (slots_of k) (at + 1)) (sym e)
