-- A well_formed code is known by the number of its four bytes, and so is its place among others.
-- Assumes nothing.
use Prim.Native.Nat.{ℕ, ◌+◌, ◌*◌, ◌/◌, ◌%◌, ◌≤◌, ◌<◌}
use mathlib.Core.Path.{◌≡◌, refl, sym, ap, ap₂, ◌∙◌}
use mathlib.Core.Bool.{Bool, true, false, cond, ◌&&◌, ◌||◌, true≢false}
use mathlib.Core.List.{List, [], ◌∷◌}
use mathlib.Core.Logic.{⊎_elim}
use native.Mathlib.Omega.{arith}
use native.Mathlib.Nat.{eq-or-lt_of_le}
use borrow.Author.Tests.{eqb-true, eqb-false, eq-eqb, ne_eqb, ltb-true, ltb-false}
use lib.Dec.{eqb, ltb}
use lib.ListN.{length}
use Rattle.field.specs.Test.{elem}
use Rattle.field.specs.Digits.{digit}
use Rattle.field.specs.Text.{letter}
use Rattle.field.proofs.Tests.{and_left, and_right, range-high}
use Rattle.field_outward.specs.Outward.{class, sequence_from, patterns, letters_fault, outward_fault}
use Rattle.field_outward.proofs.Codes.{to-3}
use Rattle.field_word.specs.Word.{weight, Bytes}
use Rattle.file_compare.specs.Order.{order, same}
use Rattle.file_compare.proofs.Order.{order_same, order-equal}
use Rattle.file_compare.proofs.Words.{weight-below}
use Rattle.pack.specs.Numbers.{bytes_of, number_from}
use Rattle.tally.specs.Order.{Each}

-- four bytes
record Four (s : List ℕ) : Type 0 where
  long : length s ≡ 4
  small : Bytes s

-- a byte of a code is a letter, a digit or a space
class-small : (b : ℕ) → class b ≤ 2 → b < 256
unfolding class
class-small b h = by_tests (letter b) (digit b) (eqb b 32) refl refl refl h
  where
    by_tests : (t u v : Bool) → letter b ≡ t → digit b ≡ u → eqb b 32 ≡ v → cond t 1 (cond u 2 (cond v 0 3)) ≤ 2 → b < 256
    by_tests true u v p q r h = omega (arith, range-high 65 90 b p)
    by_tests false true v p q r h = omega (arith, range-high 48 57 b q)
    by_tests false false true p q r h = omega (arith, eqb-true b 32 r)
    by_tests false false false p q r h = absurd (omega arith)

-- the patterns have no other byte
by-elem : (P : Type 0) (q : ℕ) (ps : List ℕ) → elem q ps ≡ true → Each (λ p. q ≡ p → P) ps → P
by-elem P q [] e h = absurd (true≢false (sym e))
by-elem P q (p ∷ ps) e h = by-test (eqb q p) refl e (λ later. by-elem P q ps later h.1)
  where
    by-test : (t : Bool) → eqb q p ≡ t → t || elem q ps ≡ true → (elem q ps ≡ true → P) → P
    by-test true is e later = h.0 (eqb-true q p is)
    by-test false is e later = later e

module _ (a b c d : ℕ) (ha : a ≤ 3) (hb : b ≤ 3) (hc : c ≤ 3) (hd : d ≤ 3) where
  abbrev Low : Type 0
  Low = (a ≤ 2) × (b ≤ 2) × (c ≤ 2) × (d ≤ 2)

  low : elem ((((0 * 10 + a) * 10 + b) * 10 + c) * 10 + d) patterns ≡ true → Low
  low e =
      by-elem Low ((((0 * 10 + a) * 10 + b) * 10 + c) * 10 + d) patterns e (
        λ h. omega arith,
        (λ h. omega arith, (λ h. omega arith, (λ h. omega arith, (λ h. omega arith, (λ h. omega arith, tt))))),
      )

code-bytes : (s : List ℕ) → outward_fault s ≡ 0 → Four s
unfolding outward_fault
code-bytes s e = by-test (eqb (length s) 4 && elem (sequence_from 0 s) patterns) refl e
  where
    of_four : (s : List ℕ) → length s ≡ 4 → elem (sequence_from 0 s) patterns ≡ true → Four s
    of_four [] h q = absurd (omega arith)
    of_four (a ∷ []) h q = absurd (omega arith)
    of_four (a ∷ b ∷ []) h q = absurd (omega arith)
    of_four (a ∷ b ∷ c ∷ []) h q = absurd (omega arith)
    of_four (a ∷ b ∷ c ∷ d ∷ []) h q =
        let l = low (class a) (class b) (class c) (class d) (to-3 a refl) (to-3 b refl) (to-3 c refl) (to-3 d refl) q in
        record {
          long = refl;
          small = (class-small a l.0, (class-small b l.1, (class-small c l.2, (class-small d l.3, tt))));
        }
    of_four (a ∷ b ∷ c ∷ d ∷ x ∷ s) h q = absurd (omega arith)

    by-test : (t : Bool) → eqb (length s) 4 && elem (sequence_from 0 s) patterns ≡ t
        → cond t (letters_fault 0 1 s) 1 ≡ 0 → Four s
    by-test true h e =
        of_four s (eqb-true (length s) 4 (and_left (eqb (length s) 4) _ h)) (and_right (eqb (length s) 4) _ h)
    by-test false h e = absurd (omega arith)

-- the bytes of the number of four bytes
bytes_back : (s : List ℕ) → Four s → bytes_of 4 (number_from 0 s) ≡ s
bytes_back [] b = absurd (omega (arith, b.long))
bytes_back (a ∷ []) b = absurd (omega (arith, b.long))
bytes_back (a ∷ x ∷ []) b = absurd (omega (arith, b.long))
bytes_back (a ∷ x ∷ y ∷ []) b = absurd (omega (arith, b.long))
bytes_back (a ∷ x ∷ y ∷ z ∷ []) b =
    let n = (((0 * 256 + a) * 256 + x) * 256 + y) * 256 + z in
    let p = b.small.0 in
    let q = b.small.1.0 in
    let r = b.small.1.1.0 in
    let t = b.small.1.1.1.0 in
    let first : n / 16_777_216 % 256 ≡ a = omega arith in
    let second : n / 65_536 % 256 ≡ x = omega arith in
    let third : n / 256 % 256 ≡ y = omega arith in
    let fourth : n / 1 % 256 ≡ z = omega arith in
    rw (first, second, third, fourth) refl
bytes_back (a ∷ x ∷ y ∷ z ∷ w ∷ s) b = absurd (omega (arith, b.long))

pub code-back : (s : List ℕ) → outward_fault s ≡ 0 → bytes_of 4 (number_from 0 s) ≡ s
code-back s e = bytes_back s (code-bytes s e)

-- a number that is a well_formed code's
pub record Coded (c : ℕ) : Type 0 where
  pub well_formed : outward_fault (bytes_of 4 c) ≡ 0
  pub back : number_from 0 (bytes_of 4 c) ≡ c

pub coded : (s : List ℕ) → outward_fault s ≡ 0 → Coded (number_from 0 s)
coded s e =
    let is = code-back s e in
    record { well_formed = ap outward_fault is ∙ e; back = ap (number_from 0) is }

-- two codes are the same where their numbers are
code_same : (s t : List ℕ) → outward_fault s ≡ 0 → outward_fault t ≡ 0 → number_from 0 s ≡ number_from 0 t → order s t ≡ 0
code_same s t e f q =
    let is : s ≡ t = sym (code-back s e) ∙ (ap (bytes_of 4) q ∙ code-back t f) in
    ap (order s) (sym is) ∙ order_same s

pub same_code : (s t : List ℕ) → outward_fault s ≡ 0 → outward_fault t ≡ 0
    → eqb (number_from 0 s) (number_from 0 t) ≡ same s t
same_code s t e f = by-test (eqb (order s t) 0) refl
  where
    by-test : (u : Bool) → same s t ≡ u → eqb (number_from 0 s) (number_from 0 t) ≡ u
    by-test true h =
        eq-eqb (number_from 0 s) (number_from 0 t) (ap (number_from 0) (order-equal s t (eqb-true (order s t) 0 h)))
    by-test false h =
        ne_eqb (number_from 0 s) (number_from 0 t) (λ q. eqb-false (order s t) 0 h (code_same s t e f q))

-- and the one is below the other where its number is
code-weight : (c : ℕ) → Coded c → weight (bytes_of 4 c) ≡ c
code-weight c k = omega (arith, k.back)

code-small : (c : ℕ) → Coded c → Bytes (bytes_of 4 c)
code-small c k = (code-bytes (bytes_of 4 c) k.well_formed).small

pub code_below : (c d : ℕ) → Coded c → Coded d → c < d → order (bytes_of 4 c) (bytes_of 4 d) ≡ 1
code_below c d k l h =
    weight-below (bytes_of 4 c) (bytes_of 4 d) [] [] refl (code-small c k) (code-small d l)
    (omega (arith, code-weight c k, code-weight d l))

-- so a code that is above another has the higher number
pub code-above : (s t : List ℕ) → outward_fault s ≡ 0 → outward_fault t ≡ 0 → order s t ≡ 2
    → number_from 0 t < number_from 0 s
code-above s t e f over = by-test (ltb (number_from 0 t) (number_from 0 s)) refl
  where
    not-below : number_from 0 s < number_from 0 t → order s t ≡ 1
    not-below h =
        ap₂ order (sym (code-back s e)) (sym (code-back t f))
        ∙ code_below (number_from 0 s) (number_from 0 t) (coded s e) (coded t f) h

    by-test : (u : Bool) → ltb (number_from 0 t) (number_from 0 s) ≡ u → number_from 0 t < number_from 0 s
    by-test true h = ltb-true (number_from 0 t) (number_from 0 s) h
    by-test false h =
        ⊎_elim (λ (q : number_from 0 s ≡ number_from 0 t). absurd (omega (arith, over, code_same s t e f q)))
        (λ (q : number_from 0 s < number_from 0 t). absurd (omega (arith, over, not-below q)))
        (eq-or-lt_of_le (ltb-false (number_from 0 t) (number_from 0 s) h))
