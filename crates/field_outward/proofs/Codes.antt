-- Laws of codes: classes, the letters of each pattern, and codes of a known length.
-- Assumes nothing.
use Prim.Native.Nat.{ℕ, zero, suc, ◌+◌, ◌*◌, ◌≤◌}
use mathlib.Core.Path.{◌≡◌, refl, sym, ap, ◌∙◌}
use mathlib.Core.Bool.{Bool, true, false, cond, ◌&&◌}
use mathlib.Core.List.{List, [], ◌∷◌}
use mathlib.Core.Logic.{◌⊎◌, inl, inr, ⊎_elim}
use native.Mathlib.Omega.{arith}
use borrow.Author.Tests.{ne_eqb, leb-true}
use lib.Dec.{leb, eqb}
use lib.ListN.{length, get_or}
use Rattle.field.specs.Test.{elem}
use Rattle.field.specs.Text.{letter}
use Rattle.field.specs.Digits.{digit}
use Rattle.field.proofs.Tests.{and_left, and_right}
use Rattle.field_outward.specs.declared.Class.{Class}
use Rattle.field_outward.specs.declared.Class.TheVariants.{Padding, Letter, Digit, Other}
use Rattle.field_outward.specs.Classes.{number_of}
use Rattle.field_outward.specs.Inward.{fault_by, inward_letter, inward_fault, suffix_fault}
use Rattle.field_outward.specs.Outward.{class, sequence_from, patterns, allowed, letters_fault, outward_fault}

-- lists of a known length, by their elements
pub two : (s : List ℕ) → length s ≡ 2 → s ≡ get_or s 0 0 ∷ get_or s 1 0 ∷ []
two [] e = absurd (omega arith)
two (a ∷ []) e = absurd (omega arith)
two (a ∷ b ∷ []) e = refl
two (a ∷ b ∷ c ∷ s) e = absurd (omega arith)

pub three : (s : List ℕ) → length s ≡ 3 → s ≡ get_or s 0 0 ∷ get_or s 1 0 ∷ get_or s 2 0 ∷ []
three [] e = absurd (omega arith)
three (a ∷ s) e = ap (a ∷◌) (two s (omega arith))

pub four : (s : List ℕ) → length s ≡ 4 → s ≡ get_or s 0 0 ∷ get_or s 1 0 ∷ get_or s 2 0 ∷ get_or s 3 0 ∷ []
four [] e = absurd (omega arith)
four (a ∷ s) e = ap (a ∷◌) (three s (omega arith))

-- two letters before or more are the third's rule
pub third-on : (before b : ℕ) → (before ≡ 0 → ⊥) → (before ≡ 1 → ⊥) → allowed 2 b ≡ allowed before b
unfolding allowed
third-on zero b n m = absurd (n refl)
third-on (suc zero) b n m = absurd (m refl)
third-on (suc (suc more)) b n m = refl

pub class-to-3 : (b : ℕ) → class b ≤ 3
unfolding class
class-to-3 b = by_tests (letter b) (digit b) (eqb b 32)
  where
    by_tests : (t u v : Bool) → cond t 1 (cond u 2 (cond v 0 3)) ≤ 3
    by_tests true u v = omega arith
    by_tests false true v = omega arith
    by_tests false false true = omega arith
    by_tests false false false = omega arith

pub to-3 : {r : ℕ} (b : ℕ) → r ≡ class b → r ≤ 3
to-3 b e = omega (arith, class-to-3 b)

-- a byte is a letter where its class is 1, and only there
letter-class : (b : ℕ) → letter b ≡ eqb (class b) 1
unfolding class
letter-class b = by_tests (letter b) (digit b) (eqb b 32)
  where
    by_tests : (t u v : Bool) → t ≡ eqb (cond t 1 (cond u 2 (cond v 0 3))) 1
    by_tests true u v = refl
    by_tests false true v = refl
    by_tests false false true = refl
    by_tests false false false = refl

-- a class by its number
pub not-letter : (p : Class) → (p ≡ Letter → ⊥) → number_of p ≡ 1 → ⊥
not-letter Padding n e = omega arith
not-letter Letter n e = n refl
not-letter Digit n e = omega arith
not-letter Other n e = omega arith

pub not-digit : (p : Class) → (p ≡ Digit → ⊥) → number_of p ≡ 2 → ⊥
not-digit Padding n e = omega arith
not-digit Letter n e = omega arith
not-digit Digit n e = n refl
not-digit Other n e = omega arith

pub not-padding : (p : Class) → (p ≡ Padding → ⊥) → number_of p ≡ 0 → ⊥
not-padding Padding n e = n refl
not-padding Letter n e = omega arith
not-padding Digit n e = omega arith
not-padding Other n e = omega arith

-- the class sequence as the code computes it
abbrev pub sequence : ℕ → ℕ → ℕ → ℕ → ℕ
sequence a b c d = class a * 1000 + class b * 100 + class c * 10 + class d

module _ (a b c d : ℕ) where
  abbrev pub code : List ℕ
  code = a ∷ b ∷ c ∷ d ∷ []

  same-sequence : sequence_from 0 code ≡ sequence a b c d
  same-sequence = omega arith

  -- a code whose class sequence is a pattern's: which of its bytes are letters, and that its letters decide
  record Patterned (p q r s : ℕ) : Type 0 where
    at_1 : letter a ≡ eqb p 1
    at-2 : letter b ≡ eqb q 1
    at-3 : letter c ≡ eqb r 1
    at-4 : letter d ≡ eqb s 1
    by-letters : outward_fault code ≡ letters_fault 0 1 code

  patterned : (p q r s : ℕ) → leb p 3 && (leb q 3 && (leb r 3 && leb s 3)) ≡ true
      → elem (p * 1000 + q * 100 + r * 10 + s) patterns ≡ true
      → sequence a b c d ≡ p * 1000 + q * 100 + r * 10 + s
      → Patterned p q r s
  unfolding outward_fault
  patterned p q r s small h e =
      let hp = leb-true p 3 (and_left _ _ small) in
      let small' = and_right (leb p 3) _ small in
      let hq = leb-true q 3 (and_left _ _ small') in
      let small'' = and_right (leb q 3) _ small' in
      let hr = leb-true r 3 (and_left _ _ small'') in
      let hs = leb-true s 3 (and_right (leb r 3) _ small'') in
      let ea : class a ≡ p = omega (arith, class-to-3 a, class-to-3 b, class-to-3 c, class-to-3 d) in
      let eb : class b ≡ q = omega (arith, class-to-3 a, class-to-3 b, class-to-3 c, class-to-3 d) in
      let ec : class c ≡ r = omega (arith, class-to-3 a, class-to-3 b, class-to-3 c, class-to-3 d) in
      let ed : class d ≡ s = omega (arith, class-to-3 a, class-to-3 b, class-to-3 c, class-to-3 d) in
      record {
        at_1 = letter-class a ∙ ap (λ n. eqb n 1) ea;
        at-2 = letter-class b ∙ ap (λ n. eqb n 1) eb;
        at-3 = letter-class c ∙ ap (λ n. eqb n 1) ec;
        at-4 = letter-class d ∙ ap (λ n. eqb n 1) ed;
        by-letters = rw (same-sequence ∙ e, h);
      }

  -- AN and ANN
  pub one-letter : (sequence a b c d ≡ 1200) ⊎ (sequence a b c d ≡ 1220)
      → outward_fault code ≡ cond (allowed 0 a) 0 1
  one-letter (inl e) =
      let k = patterned 1 2 0 0 refl refl e in
      k.by-letters ∙ simp (k.at_1, k.at-2, k.at-3, k.at-4)
  one-letter (inr e) =
      let k = patterned 1 2 2 0 refl refl e in
      k.by-letters ∙ simp (k.at_1, k.at-2, k.at-3, k.at-4)

  -- AAN and AANN
  pub two-letters : (sequence a b c d ≡ 1120) ⊎ (sequence a b c d ≡ 1122)
      → outward_fault code ≡ cond (allowed 0 a) (cond (allowed 1 b) 0 2) 1
  two-letters (inl e) =
      let k = patterned 1 1 2 0 refl refl e in
      k.by-letters ∙ simp (k.at_1, k.at-2, k.at-3, k.at-4)
  two-letters (inr e) =
      let k = patterned 1 1 2 2 refl refl e in
      k.by-letters ∙ simp (k.at_1, k.at-2, k.at-3, k.at-4)

  -- ANA
  pub apart-letters : sequence a b c d ≡ 1210
      → outward_fault code ≡ cond (allowed 0 a) (cond (allowed 1 c) 0 3) 1
  apart-letters e =
      let k = patterned 1 2 1 0 refl refl e in
      k.by-letters ∙ simp (k.at_1, k.at-2, k.at-3, k.at-4)

  -- AANA
  pub three-letters : sequence a b c d ≡ 1121
      → outward_fault code ≡ cond (allowed 0 a) (cond (allowed 1 b) (cond (allowed 2 d) 0 4) 2) 1
  three-letters e =
      let k = patterned 1 1 2 1 refl refl e in
      k.by-letters ∙ simp (k.at_1, k.at-2, k.at-3, k.at-4)

  -- none of the patterns
  pub no-pattern : ((sequence a b c d ≡ 1200) ⊎ (sequence a b c d ≡ 1220) → ⊥)
      → ((sequence a b c d ≡ 1120) ⊎ (sequence a b c d ≡ 1122) → ⊥)
      → (sequence a b c d ≡ 1210 → ⊥)
      → (sequence a b c d ≡ 1121 → ⊥)
      → outward_fault code ≡ 1
  unfolding outward_fault
  no-pattern n₁ n₂ n₃ n₄ =
      let q = sequence a b c d in
      simp (
        same-sequence,
        ne_eqb q 1200 (λ e. n₁ (inl e)),
        ne_eqb q 1220 (λ e. n₁ (inr e)),
        ne_eqb q 1120 (λ e. n₂ (inl e)),
        ne_eqb q 1122 (λ e. n₂ (inr e)),
        ne_eqb q 1210 n₃,
        ne_eqb q 1121 n₄,
      )

-- the six patterns, by the number that each is
module _ (a b c d : ℕ) where
  pub unlike : (sequence a b c d ≡ 1200 → ⊥) → (sequence a b c d ≡ 1220 → ⊥) → (sequence a b c d ≡ 1120 → ⊥)
      → (sequence a b c d ≡ 1122 → ⊥)
      → (sequence a b c d ≡ 1210 → ⊥)
      → (sequence a b c d ≡ 1121 → ⊥)
      → 1 ≡ outward_fault (code a b c d)
  unlike n₁ n₂ n₃ n₄ n₅ n₆ = sym (no-pattern a b c d (⊎_elim n₁ n₂) (⊎_elim n₃ n₄) n₅ n₆)

-- what the classes of a code decide
pub ruleset by_class =
    (one-letter, two-letters, apart-letters, three-letters, unlike, class-to-3, not-letter, not-digit, not-padding)

-- another length
pub not-four : (s : List ℕ) → (length s ≡ 4 → ⊥) → outward_fault s ≡ 1
unfolding outward_fault
not-four s n = simp (ne_eqb (length s) 4 n)

-- an inward code and a suffix, by their bytes
pub inward-bytes : (s : List ℕ) → length s ≡ 3
    → inward_fault s
    ≡ cond (digit (get_or s 0 0)) (cond (inward_letter (get_or s 1 0)) (cond (inward_letter (get_or s 2 0)) 0 3) 2) 1
unfolding inward_fault
inward-bytes [] e = absurd (omega arith)
inward-bytes (a ∷ []) e = absurd (omega arith)
inward-bytes (a ∷ b ∷ []) e = absurd (omega arith)
inward-bytes (a ∷ b ∷ c ∷ []) e = refl
inward-bytes (a ∷ b ∷ c ∷ d ∷ s) e = absurd (omega arith)

pub suffix-bytes : (s : List ℕ) → length s ≡ 2
    → suffix_fault s ≡ cond (digit (get_or s 0 0)) (cond (letter (get_or s 1 0)) 0 2) 1
unfolding suffix_fault
suffix-bytes [] e = absurd (omega arith)
suffix-bytes (a ∷ []) e = absurd (omega arith)
suffix-bytes (a ∷ b ∷ []) e = refl
suffix-bytes (a ∷ b ∷ c ∷ s) e = absurd (omega arith)

either-bound : (t : Bool) (n more : ℕ) → n ≤ 1 + more → cond t n 1 ≤ 1 + more
either-bound true n more h = h
either-bound false n more h = omega arith

-- a fault stands in the code, or at its first byte
letters-bound : (s : List ℕ) (before at : ℕ) → letters_fault before at s ≤ at + length s
letters-bound [] before at = omega arith
letters-bound (x ∷ xs) before at =
    by_tests (letter x) (allowed before x) (letters-bound xs (suc before) (suc at)) (letters-bound xs before (suc at))
  where
    by_tests : (t u : Bool) → letters_fault (suc before) (suc at) xs ≤ suc at + length xs
        → letters_fault before (suc at) xs ≤ suc at + length xs
        → cond t (cond u (letters_fault (suc before) (suc at) xs) at) (letters_fault before (suc at) xs)
        ≤ at + suc (length xs)
    by_tests true true g h = omega arith
    by_tests true false g h = omega arith
    by_tests false u g h = omega arith

pub outward-bound : (s : List ℕ) → outward_fault s ≤ 1 + length s
unfolding outward_fault
outward-bound s = either-bound (eqb (length s) 4 && elem (sequence_from 0 s) patterns) _ (length s) (letters-bound s 0 1)

tests-bound : (oks : List (ℕ → Bool)) (at : ℕ) (s : List ℕ) → fault_by oks at s ≤ at + length s
tests-bound [] at s = omega arith
tests-bound (ok ∷ oks) at [] = omega arith
tests-bound (ok ∷ oks) at (x ∷ xs) = by-test (ok x) (tests-bound oks (suc at) xs)
  where
    by-test : (t : Bool) → fault_by oks (suc at) xs ≤ suc at + length xs
        → cond t (fault_by oks (suc at) xs) at ≤ at + suc (length xs)
    by-test true h = omega arith
    by-test false h = omega arith

pub inward-bound : (s : List ℕ) → inward_fault s ≤ 1 + length s
unfolding inward_fault
inward-bound s = either-bound (eqb (length s) 3) _ (length s) (tests-bound (digit ∷ inward_letter ∷ inward_letter ∷ []) 1 s)

pub suffix-bound : (s : List ℕ) → suffix_fault s ≤ 1 + length s
unfolding suffix_fault
suffix-bound s = either-bound (eqb (length s) 2) _ (length s) (tests-bound (digit ∷ letter ∷ []) 1 s)
