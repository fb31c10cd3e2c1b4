-- Laws of text fields: the faults of a text, and the text without its padding.
-- Assumes nothing.
use Prim.Native.Nat.{ℕ, suc, ◌+◌, ◌-◌, ◌≤◌, ◌<◌, min}
use mathlib.Core.Path.{◌≡◌, refl, sym, ap, ◌∙◌}
use mathlib.Core.Bool.{Bool, true, false, cond, true≢false}
use mathlib.Core.List.{List, [], ◌∷◌, ◌++◌}
use native.Mathlib.Omega.{arith}
use native.Mathlib.Nat.{min-eq_left, min-eq_right, min-le_left}
use borrow.Author.Tests.{ne_eqb, leb-true, leb-false}
use lib.Dec.{leb, eqb, lit<}
use lib.ListN.{length, take, drop, get_or, length-take, length-drop}
use lib.Seq.{take-suc, take_all, get_or-take, get_or-drop}
use Rattle.field.specs.Test.{first_fault}
use Rattle.field.proofs.Faults.{fault-bound}
use Rattle.field.specs.Text.{text_byte, blank, starts_blank, text_fault, filled_fault, keep, trim, part, text_in}

-- the first byte, as the code reads it
pub starts-empty : (s : List ℕ) → length s ≡ 0 → starts_blank s ≡ true
starts-empty [] e = refl
starts-empty (x ∷ xs) e = absurd (omega arith)

pub starts-byte : (s : List ℕ) → (length s ≡ 0 → ⊥) → starts_blank s ≡ eqb (get_or s 0 0) 32
starts-byte [] n = absurd (n refl)
starts-byte (x ∷ xs) n = refl

-- the faults of a text by its first byte
pub text-blank : (s : List ℕ) → starts_blank s ≡ true → text_fault s ≡ cond (blank s) 0 1
unfolding text_fault
text-blank s e = simp e

pub text-other : (s : List ℕ) → starts_blank s ≡ false → text_fault s ≡ first_fault text_byte s
unfolding text_fault
text-other s e = simp e

pub filled-blank : (s : List ℕ) → starts_blank s ≡ true → filled_fault s ≡ 1
unfolding filled_fault
filled-blank s e = rw (text-blank s e) (either (blank s))
  where
    either : (t : Bool) → ◌≡◌ {A = ℕ} (cond t 1 (cond t 0 1)) 1
    either true = refl
    either false = refl

pub filled-other : (s : List ℕ) → starts_blank s ≡ false → filled_fault s ≡ first_fault text_byte s
unfolding filled_fault
filled-other [] e = absurd (true≢false e)
filled-other (x ∷ xs) e = simp e (text-other (x ∷ xs) e)

-- a space at the end goes
trim-space : (s : List ℕ) → trim (s ++ (32 ∷ [])) ≡ trim s
trim-space [] = refl
trim-space (x ∷ xs) = ap (keep (eqb x 32) x) (trim-space xs)

-- another byte at the end stays, and all before it
trim-other : (s : List ℕ) (y : ℕ) → (y ≡ 32 → ⊥) → trim (s ++ (y ∷ [])) ≡ s ++ (y ∷ [])
trim-other [] y h = simp (ne_eqb y 32 h)
trim-other (x ∷ xs) y h = ap (keep (eqb x 32) x) (trim-other xs y h) ∙ kept (eqb x 32) xs
  where
    kept : (t : Bool) (s : List ℕ) → keep t x (s ++ (y ∷ [])) ≡ x ∷ (s ++ (y ∷ []))
    kept false s = refl
    kept true [] = refl
    kept true (z ∷ zs) = refl

-- a part reaches as far as there are bytes
pub part-within : (rec : List ℕ) (start end : ℕ) → part rec start (min end (length rec)) ≡ part rec start end
part-within rec start end = by-test (leb end (length rec)) refl
  where
    whole : (n : ℕ) → length rec ≤ n → take (n - start) (drop start rec) ≡ drop start rec
    whole n h = take_all (n - start) (drop start rec) (simp length-drop (omega arith))

    by-test : (t : Bool) → leb end (length rec) ≡ t
        → take (min end (length rec) - start) (drop start rec) ≡ take (end - start) (drop start rec)
    by-test true e = rw (min-eq_left (leb-true end (length rec) e))
    by-test false e =
        let h : length rec < end = leb-false end (length rec) e in
        let least : min end (length rec) ≡ length rec = min-eq_right (omega arith) in
        rw least (whole (length rec) (omega arith) ∙ sym (whole end (omega arith)))

pub part_none : (rec : List ℕ) (start end : ℕ) → end ≤ start → part rec start end ≡ []
part_none rec start end h = rw (let z : end - start ≡ 0 = omega arith in z)

-- a part that ends at `end`, by its last byte
part-last : (rec : List ℕ) (start end : ℕ) → start < end → end ≤ length rec
    → part rec start end ≡ part rec start (end - 1) ++ (get_or rec (end - 1) 0 ∷ [])
part-last rec start end p h =
    let size : end - start ≡ suc (end - 1 - start) = omega arith in
    let place : start + (end - 1 - start) ≡ end - 1 = omega arith in
    ap (λ (n : ℕ). take n (drop start rec)) size
    ∙ (take-suc (drop start rec) (end - 1 - start) 0 (simp length-drop (omega arith))
    ∙ rw (get_or-drop start rec (end - 1 - start) 0, place))

pub text-back : (rec : List ℕ) (start end : ℕ) → start < end → end ≤ length rec → get_or rec (end - 1) 0 ≡ 32
    → text_in rec start end ≡ text_in rec start (end - 1)
unfolding text_in
text-back rec start end p h e = rw (part-last rec start end p h, e) (trim-space (part rec start (end - 1)))

pub text-stop : (rec : List ℕ) (start end : ℕ) → start < end → end ≤ length rec → (get_or rec (end - 1) 0 ≡ 32 → ⊥)
    → text_in rec start end ≡ part rec start end
unfolding text_in
text-stop rec start end p h e =
    rw (part-last rec start end p h) (trim-other (part rec start (end - 1)) (get_or rec (end - 1) 0) e)

pub text-none : (rec : List ℕ) (start end : ℕ) → end ≤ start → text_in rec start end ≡ []
unfolding text_in
text-none rec start end h = ap trim (part_none rec start end h)

-- past the record's end there is nothing more
pub text-within : (rec : List ℕ) (start end : ℕ) → text_in rec start (min end (length rec)) ≡ text_in rec start end
unfolding text_in
text-within rec start end = ap trim (part-within rec start end)

-- a fault stands in the field, or at its first byte
pub text-bound : (s : List ℕ) → text_fault s ≤ 1 + length s
unfolding text_fault
text-bound s = by_tests (starts_blank s) (blank s)
  where
    by_tests : (t u : Bool) → cond t (cond u 0 1) (first_fault text_byte s) ≤ 1 + length s
    by_tests true true = omega arith
    by_tests true false = omega arith
    by_tests false u = fault-bound text_byte s 1

pub filled-bound : (s : List ℕ) → filled_fault s ≤ 1 + length s
unfolding filled_fault
filled-bound s = by-test (blank s) (text-bound s)
  where
    by-test : (t : Bool) → text_fault s ≤ 1 + length s → cond t 1 (text_fault s) ≤ 1 + length s
    by-test true h = omega arith
    by-test false h = h

pub part-bound : (rec : List ℕ) (start end : ℕ) → length (part rec start end) ≤ end - start
part-bound rec start end = rw length-take (min-le_left (end - start) (length (drop start rec)))

-- a part of one byte
pub part-byte : (rec : List ℕ) (at : ℕ) → get_or (part rec at (at + 1)) 0 0 ≡ get_or rec at 0
part-byte rec at =
    let size : at + 1 - at ≡ 1 = omega arith in
    let place : at + 0 ≡ at = omega arith in
    rw (size, get_or-take 1 (drop at rec) 0 0 (lit< tt), get_or-drop at rec 0 0, place)
