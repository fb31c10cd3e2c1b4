-- A postcode as a field: an outward code without its padding, a space and an inward code are read back; a suffix is one.
-- Assumes nothing.
use Prim.Native.Nat.{ℕ, suc, ◌+◌, ◌-◌, ◌≤◌}
use mathlib.Core.Path.{◌≡◌, refl, sym, ap, subst, ◌∙◌}
use mathlib.Core.Bool.{Bool, true, false, cond, ◌&&◌, ◌||◌, true≢false}
use mathlib.Core.List.{List, [], ◌∷◌}
use native.Mathlib.Omega.{arith}
use borrow.Author.Tests.{le-leb, eq-eqb, ne_eqb, eqb-true, eqb-false}
use lib.Dec.{eqb}
use lib.ListN.{length, drop, get_or, length-append}
use lib.Seq.{take_at, drop-append-add, get_or_at}
use Rattle.field.specs.Test.{elem, every}
use Rattle.field.specs.Digits.{digit}
use Rattle.field.specs.Text.{letter, keep, trim, from_end}
use Rattle.field.proofs.Tests.{and_left, range-low, range-high}
use Rattle.field.proofs.Parts.{every_append}
use Rattle.field_outward.specs.Outward.{class, sequence_from, patterns, letters_fault, outward_fault}
use Rattle.field_outward.specs.Inward.{fault_by, inward_letter, inward_fault, suffix_fault}
use Rattle.field_outward.proofs.Codes.{to-3, four}
use Rattle.field_outward.proofs.Long.{outward-long, inward-long, suffix-long}
use Rattle.label.specs.Lines.{spaced}
use Rattle.csv_paf.specs.File.{is_outward, outward_in, inward_in, is_postcode}
use Rattle.csv_back.proofs.Texts.{row_byte, row-byte}

-- ---- letters, digits and spaces are bytes of a row

pub digit-byte : (b : ℕ) → digit b ≡ true → row_byte b ≡ true
digit-byte b e =
    let low = range-low 48 57 b e in
    let high = range-high 48 57 b e in
    row-byte b (omega arith) (omega arith) (λ is. omega arith) (λ is. omega arith)

letter-byte : (b : ℕ) → letter b ≡ true → row_byte b ≡ true
letter-byte b e =
    let low = range-low 65 90 b e in
    let high = range-high 65 90 b e in
    row-byte b (omega arith) (omega arith) (λ is. omega arith) (λ is. omega arith)

class-byte : (b : ℕ) → class b ≤ 2 → row_byte b ≡ true
unfolding class
class-byte b h = by_tests (letter b) (digit b) (eqb b 32) refl refl refl h
  where
    by_tests : (t u v : Bool) → letter b ≡ t → digit b ≡ u → eqb b 32 ≡ v → cond t 1 (cond u 2 (cond v 0 3)) ≤ 2
        → row_byte b ≡ true
    by_tests true u v p q r h = letter-byte b p
    by_tests false true v p q r h = digit-byte b q
    by_tests false false true p q r h = rw (eqb-true b 32 r)
    by_tests false false false p q r h = absurd (omega arith)

class-space : (b : ℕ) → 1 ≤ class b → b ≡ 32 → ⊥
unfolding class
class-space b h e = let z : class b ≡ 0 = ap class e in omega arith

-- ---- an outward code

-- what follows from each of some numbers follows from being one of them
abbrev EachGives : (R : Type 0) (q : ℕ) → List ℕ → Type 0
EachGives R q [] = Unit {0}
EachGives R q (x ∷ xs) = (q ≡ x → R) × EachGives R q xs

elem-gives : {R : Type 0} (q : ℕ) (xs : List ℕ) → elem q xs ≡ true → EachGives R q xs → R
elem-gives q [] e g = absurd (true≢false (sym e))
elem-gives {R} q (x ∷ xs) e g = by-test (eqb q x) refl e (λ later. elem-gives q xs later g.1)
  where
    by-test : (t : Bool) → eqb q x ≡ t → t || elem q xs ≡ true → (elem q xs ≡ true → R) → R
    by-test true p e more = g.0 (eqb-true q x p)
    by-test false p e more = more e

-- the classes of its bytes: a letter, a letter or a digit, and then padding too
record Classes (a b c d : ℕ) : Type 0 where
  first : class a ≡ 1
  second : 1 ≤ class b
  second-2 : class b ≤ 2
  third : class c ≤ 2
  fourth : class d ≤ 2

module _ (a b c d : ℕ) (e : outward_fault (a ∷ b ∷ c ∷ d ∷ []) ≡ 0) where
  abbrev code : List ℕ
  code = a ∷ b ∷ c ∷ d ∷ []

  abbrev q : ℕ
  q = sequence_from 0 code

  patterned : elem q patterns ≡ true
  unfolding outward_fault
  patterned = by-test (elem q patterns) e
    where
      by-test : (t : Bool) → cond t (letters_fault 0 1 code) 1 ≡ 0 → t ≡ true
      by-test true z = refl
      by-test false z = absurd (omega arith)

  classes : Classes a b c d
  classes =
      let ha = to-3 a refl in
      let hb = to-3 b refl in
      let hc = to-3 c refl in
      let hd = to-3 d refl in
      elem-gives {R = Classes a b c d} q patterns patterned (
        (λ h. omega arith),
        ((λ h. omega arith), ((λ h. omega arith), ((λ h. omega arith), ((λ h. omega arith), ((λ h. omega arith), tt))))),
      )

-- an outward code without its padding
pub record OutwardText (o : List ℕ) : Type 0 where
  pub is-outward : is_outward o ≡ true
  pub low : 2 ≤ length o
  pub high : length o ≤ 4
  pub bytes : every row_byte o ≡ true

outward-four : (a b c d : ℕ) → outward_fault (a ∷ b ∷ c ∷ d ∷ []) ≡ 0 → OutwardText (trim (a ∷ b ∷ c ∷ d ∷ []))
outward-four a b c d e = by_tests (eqb c 32) (eqb d 32) refl refl
  where
    k : Classes a b c d
    k = classes a b c d e

    not_a : a ≡ 32 → ⊥
    not_a = class-space a (omega (arith, k.first))

    not-b : b ≡ 32 → ⊥
    not-b = class-space b k.second

    is-a : row_byte a ≡ true
    is-a = class-byte a (omega (arith, k.first))

    is_b : row_byte b ≡ true
    is_b = class-byte b k.second-2

    is_c : row_byte c ≡ true
    is_c = class-byte c k.third

    is-d : row_byte d ≡ true
    is-d = class-byte d k.fourth

    two_bytes : c ≡ 32 → d ≡ 32 → OutwardText (a ∷ b ∷ [])
    two_bytes p q =
        let f : outward_fault (a ∷ b ∷ 32 ∷ 32 ∷ []) ≡ 0 =
        subst (λ (z : ℕ). outward_fault (a ∷ b ∷ 32 ∷ z ∷ []) ≡ 0) q
        (subst (λ (z : ℕ). outward_fault (a ∷ b ∷ z ∷ d ∷ []) ≡ 0) p e) in
        record {
          is-outward = simp (ne_eqb b 32 not-b, f);
          low = omega arith;
          high = omega arith;
          bytes = simp (is-a, is_b);
        }

    three-bytes : (c ≡ 32 → ⊥) → d ≡ 32 → OutwardText (a ∷ b ∷ c ∷ [])
    three-bytes n q =
        let f : outward_fault (a ∷ b ∷ c ∷ 32 ∷ []) ≡ 0 =
        subst (λ (z : ℕ). outward_fault (a ∷ b ∷ c ∷ z ∷ []) ≡ 0) q e in
        record {
          is-outward = simp (ne_eqb c 32 n, f);
          low = omega arith;
          high = omega arith;
          bytes = simp (is-a, is_b, is_c);
        }

    four_bytes : (d ≡ 32 → ⊥) → OutwardText (a ∷ b ∷ c ∷ d ∷ [])
    four_bytes n =
        record {
          is-outward = simp (ne_eqb d 32 n, e);
          low = omega arith;
          high = omega arith;
          bytes = simp (is-a, is_b, is_c, is-d);
        }

    by_tests : (t u : Bool) → eqb c 32 ≡ t → eqb d 32 ≡ u
        → OutwardText (keep (eqb a 32) a (keep (eqb b 32) b (keep t c (keep u d []))))
    by_tests true true p q = simp (ne_eqb a 32 not_a, ne_eqb b 32 not-b) (two_bytes (eqb-true c 32 p) (eqb-true d 32 q))
    by_tests true false p q = simp (ne_eqb a 32 not_a, ne_eqb b 32 not-b) (four_bytes (eqb-false d 32 q))
    by_tests false true p q =
        simp (ne_eqb a 32 not_a, ne_eqb b 32 not-b) (three-bytes (eqb-false c 32 p) (eqb-true d 32 q))
    by_tests false false p q = simp (ne_eqb a 32 not_a, ne_eqb b 32 not-b) (four_bytes (eqb-false d 32 q))

pub outward-text : (code : List ℕ) → outward_fault code ≡ 0 → OutwardText (trim code)
outward-text code e =
    let is = four code (outward-long code e) in
    subst (λ (s : List ℕ). OutwardText (trim s)) (sym is)
    (outward-four (get_or code 0 0) (get_or code 1 0) (get_or code 2 0) (get_or code 3 0)
    (subst (λ (s : List ℕ). outward_fault s ≡ 0) is e))

-- ---- an inward code, a suffix and a postcode type

-- tests that bytes of a row alone pass
abbrev BytesPass : List (ℕ → Bool) → Type 0
BytesPass [] = Unit {0}
BytesPass (ok ∷ oks) = ((b : ℕ) → ok b ≡ true → row_byte b ≡ true) × BytesPass oks

passing : (oks : List (ℕ → Bool)) (at : ℕ) (s : List ℕ) → BytesPass oks → length s ≡ length oks
    → fault_by oks (suc at) s ≡ 0
    → every row_byte s ≡ true
passing [] at [] t n e = refl
passing [] at (x ∷ xs) t n e = absurd (omega arith)
passing (ok ∷ oks) at [] t n e = absurd (omega arith)
passing (ok ∷ oks) at (x ∷ xs) t n e = by-test (ok x) refl e (passing oks (suc at) xs t.1 (omega arith))
  where
    by-test : (u : Bool) → ok x ≡ u → cond u (fault_by oks (suc (suc at)) xs) (suc at) ≡ 0
        → (fault_by oks (suc (suc at)) xs ≡ 0 → every row_byte xs ≡ true)
        → row_byte x && every row_byte xs ≡ true
    by-test true p e more = rw (t.0 x p) (more e)
    by-test false p e more = absurd (omega arith)

inward-letter : (b : ℕ) → inward_letter b ≡ true → row_byte b ≡ true
unfolding inward_letter
inward-letter b e = letter-byte b (and_left (letter b) _ e)

pub inward-text : (s : List ℕ) → inward_fault s ≡ 0 → every row_byte s ≡ true
unfolding inward_fault
inward-text s e =
    let long = inward-long s e in
    passing (digit ∷ inward_letter ∷ inward_letter ∷ []) 0 s (digit-byte, (inward-letter, (inward-letter, tt))) long
    (simp (eq-eqb (length s) 3 long) at e)

pub suffix-text : (s : List ℕ) → suffix_fault s ≡ 0 → every row_byte s ≡ true
unfolding suffix_fault
suffix-text s e =
    let long = suffix-long s e in
    passing (digit ∷ letter ∷ []) 0 s (digit-byte, (letter-byte, tt)) long (simp (eq-eqb (length s) 2 long) at e)

-- a postcode type
pub type-text : (type : ℕ) → elem type (83 ∷ 76 ∷ []) ≡ true → every row_byte (type ∷ []) ≡ true
type-text type e =
    elem-gives {R = every row_byte (type ∷ []) ≡ true} type (83 ∷ 76 ∷ []) e ((λ is. rw is), ((λ is. rw is), tt))

-- ---- both codes, with a space between

module _ (o i : List ℕ) (out : OutwardText o) (in-good : inward_fault i ≡ 0) where
  abbrev postcode : List ℕ
  postcode = spaced o i

  size : length postcode ≡ length o + 4
  size = omega (arith, length-append o (32 ∷ i), inward-long i in-good)

  pub outward-back : outward_in postcode ≡ o
  outward-back = take_at o (32 ∷ i) (length postcode - 4) (omega (arith, size))

  pub inward-back : inward_in postcode ≡ i
  inward-back =
      let at : length postcode - 3 ≡ length o + 1 = omega (arith, size) in
      ap (λ (n : ℕ). drop n postcode) at ∙ drop-append-add o (32 ∷ i) 1

  between : from_end postcode 4 ≡ 32
  between = get_or_at o 32 i 0 (length postcode - 4) (omega (arith, size))

  pub is-postcode : is_postcode postcode ≡ true
  unfolding is_postcode
  is-postcode =
      simp (
        le-leb 6 (length postcode) (omega (arith, size, out.low)),
        le-leb (length postcode) 8 (omega (arith, size, out.high)),
        between,
        outward-back,
        inward-back,
        out.is-outward,
        in-good,
      )

  pub postcode-long : length postcode ≤ 8
  postcode-long = omega (arith, size, out.high)

  pub postcode-bytes : every row_byte postcode ≡ true
  postcode-bytes = every_append row_byte o (32 ∷ i) out.bytes (inward-text i in-good)
