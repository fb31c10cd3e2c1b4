-- A text field that has no fault is, without its padding, a text that a pack may hold; and what such a text is.
-- Assumes nothing.
use Prim.Native.Nat.{ℕ, suc, ◌-◌, ◌≤◌}
use mathlib.Core.Path.{◌≡◌, refl, sym, subst, ◌∙◌}
use mathlib.Core.Bool.{Bool, true, false, cond, not, ◌&&◌, ◌||◌, true≢false}
use mathlib.Core.List.{List, [], ◌∷◌}
use native.Mathlib.Omega.{arith}
use borrow.Author.Tests.{le-leb, leb-true, ne_eqb, eqb-false}
use lib.Dec.{eqb, leb}
use lib.ListN.{length, get_or}
use lib.Seq.{take_all}
use Rattle.field.specs.Test.{every}
use Rattle.field.specs.Text.{text_byte, blank, starts_blank, text_fault, filled_fault, keep, trim, from_end, part, text_in}
use Rattle.field.proofs.Tests.{and_left, and_right}
use Rattle.field.proofs.Faults.{no-fault-every}
use Rattle.field.proofs.Texts.{text-blank, text-other}
use Rattle.label.specs.Lines.{is_empty}
use Rattle.field.proofs.Fronts.{text_in-bound}
use Rattle.pack.specs.Opening.{Slot, slot, text_good}

-- a text without its padding is empty where the field is blank, and only there
pub trim-empty : (s : List ℕ) → is_empty (trim s) ≡ blank s
trim-empty [] = refl
trim-empty (x ∷ xs) = by-rest (eqb x 32) (trim xs) (trim-empty xs)
  where
    by-rest : (t : Bool) (r : List ℕ) → is_empty r ≡ blank xs → is_empty (keep t x r) ≡ t && blank xs
    by-rest true [] e = e
    by-rest true (y ∷ ys) e = e
    by-rest false r e = refl

-- the last byte is that of the bytes behind the first
last-behind : (x y : ℕ) (ys : List ℕ) → from_end (x ∷ y ∷ ys) 1 ≡ from_end (y ∷ ys) 1
last-behind x y ys = rw (let z : suc (suc (length ys)) - 1 ≡ suc (suc (length ys) - 1) = omega arith in z)

-- it does not end with a space
trim_end : (s : List ℕ) → from_end (trim s) 1 ≡ 32 → ⊥
trim_end [] = λ e. omega arith
trim_end (x ∷ xs) = by-rest (eqb x 32) refl (trim xs) (trim_end xs)
  where
    by-rest : (t : Bool) → eqb x 32 ≡ t → (r : List ℕ) → (from_end r 1 ≡ 32 → ⊥) → from_end (keep t x r) 1 ≡ 32 → ⊥
    by-rest true q [] n e = omega arith
    by-rest true q (y ∷ ys) n e = n (sym (last-behind x y ys) ∙ e)
    by-rest false q [] n e = eqb-false x 32 q e
    by-rest false q (y ∷ ys) n e = n (sym (last-behind x y ys) ∙ e)

-- and its bytes are bytes of the field
trim-every : (ok : ℕ → Bool) (s : List ℕ) → every ok s ≡ true → every ok (trim s) ≡ true
trim-every ok [] e = refl
trim-every ok (x ∷ xs) e =
    by-rest (eqb x 32) (trim xs) (and_left (ok x) (every ok xs) e) (trim-every ok xs (and_right (ok x) (every ok xs) e))
  where
    by-rest : (t : Bool) (r : List ℕ) → ok x ≡ true → every ok r ≡ true → every ok (keep t x r) ≡ true
    by-rest true [] e f = refl
    by-rest true (y ∷ ys) e f = simp (e, f)
    by-rest false r e f = simp (e, f)

-- a blank field leaves nothing
blank_none : (s : List ℕ) → blank s ≡ true → trim s ≡ []
blank_none s e = by-text (trim s) (trim-empty s ∙ e)
  where
    by-text : (t : List ℕ) → is_empty t ≡ true → t ≡ []
    by-text [] e = refl
    by-text (x ∷ xs) e = absurd (true≢false (sym e))

-- a text that has no fault is blank, or begins with another byte than a space and has bytes of a text only
record Clean (s : List ℕ) : Type 0 where
  bytes : every text_byte (trim s) ≡ true
  start : get_or (trim s) 0 0 ≡ 32 → ⊥

clean : (s : List ℕ) → text_fault s ≡ 0 → Clean s
clean s e = by-start (starts_blank s) refl
  where
    first-kept : (s : List ℕ) → starts_blank s ≡ false → get_or (trim s) 0 0 ≡ 32 → ⊥
    first-kept [] e = absurd (true≢false e)
    first-kept (x ∷ xs) e = λ f. eqb-false x 32 e (simp e at f)

    by-blank : (t : Bool) → blank s ≡ t → ◌≡◌ {A = ℕ} (cond t 0 1) 0 → Clean s
    by-blank true q f =
        record {
          bytes = rw (blank_none s q);
          start = rw (blank_none s q) (λ z. omega arith);
        }
    by-blank false q f = absurd (omega arith)

    by-start : (t : Bool) → starts_blank s ≡ t → Clean s
    by-start true q = by-blank (blank s) refl (sym (text-blank s q) ∙ e)
    by-start false q =
        record {
          bytes = trim-every text_byte s (no-fault-every text_byte s 0 (sym (text-other s q) ∙ e));
          start = first-kept s q;
        }

-- the five tests of a text
five : (a b c d e : Bool) → a ≡ true → b ≡ true → c ≡ false → d ≡ false → e ≡ true
    → a && (b && (not c && (not d && e))) ≡ true
five a b c d e h0 h1 h2 h3 h4 = simp (h0, h1, h2, h3, h4)

-- a text field without its padding fills a slot of its width, where it may be blank
module _ (rec : List ℕ) (start end : ℕ) where
  text-good : (w : ℕ) (empty : Bool) → end - start ≤ w → text_fault (part rec start end) ≡ 0
      → empty || not (is_empty (text_in rec start end)) ≡ true
      → text_good (slot w empty) (text_in rec start end) ≡ true
  unfolding text_good text_in
  text-good w empty fits e filled =
      let c = clean (part rec start end) e in
      let t = text_in rec start end in
      five _ _ _ _ _ (le-leb (length t) w (omega (arith, text_in-bound rec start end))) c.bytes
      (ne_eqb (get_or t 0 0) 32 c.start) (ne_eqb (from_end t 1) 32 (trim_end (part rec start end))) filled

  pub may-be-blank : (w : ℕ) → end - start ≤ w → text_fault (part rec start end) ≡ 0
      → text_good (slot w true) (text_in rec start end) ≡ true
  may-be-blank w fits e = text-good w true fits e refl

-- a field that may not be blank
filled : (s : List ℕ) → filled_fault s ≡ 0 → (blank s ≡ false) × (text_fault s ≡ 0)
unfolding filled_fault
filled s e = by-test (blank s) e
  where
    by-test : (t : Bool) → cond t 1 (text_fault s) ≡ 0 → (t ≡ false) × (text_fault s ≡ 0)
    by-test true e = absurd (omega arith)
    by-test false e = (refl, e)

module _ (rec : List ℕ) (start end : ℕ) (whole : filled_fault (part rec start end) ≡ 0) where
  pub filled-text : text_fault (part rec start end) ≡ 0
  filled-text = (filled (part rec start end) whole).1

  pub not-blank : is_empty (text_in rec start end) ≡ false
  unfolding text_in
  not-blank = trim-empty (part rec start end) ∙ (filled (part rec start end) whole).0

  pub filled-good : (w : ℕ) → end - start ≤ w → text_good (slot w false) (text_in rec start end) ≡ true
  filled-good w fits = text-good rec start end w false fits filled-text (simp not-blank)

-- a text of at most so many bytes, each a byte of a text
abbrev pub TextOf : ℕ → List ℕ → Type 0
TextOf w t = (length t ≤ w) × (every text_byte t ≡ true)

-- so is one that fills a slot
pub good-text : (s : Slot) (t : List ℕ) → text_good s t ≡ true → TextOf s.width t
unfolding text_good
good-text s t good =
    let width = leb (length t) s.width in
    (leb-true (length t) s.width (and_left width _ good), and_left (every text_byte t) _ (and_right width _ good))

-- without its padding a field is no longer
pub trim-long : (s : List ℕ) → length (trim s) ≤ length s
unfolding text_in
trim-long s =
    let whole : part s 0 (length s) ≡ s = take_all (length s - 0) s (omega arith) in
    let short : length (trim (part s 0 (length s))) ≤ length s = omega (arith, text_in-bound s 0 (length s)) in
    subst (λ (t : List ℕ). length (trim t) ≤ length s) whole short
