-- Laws of digits where a pattern wants them, and of texts without a fault.
-- Assumes nothing.
use Prim.Native.Nat.{ℕ, zero, suc, ◌-◌, ◌≤◌, ◌<◌, min}
use mathlib.Core.Path.{◌≡◌, refl, ◌∙◌}
use mathlib.Core.Bool.{Bool, true, false, not, ◌&&◌}
use mathlib.Core.List.{List, [], ◌∷◌}
use native.Mathlib.Omega.{arith}
use native.Mathlib.Nat.{min-eq_left, min-eq_right}
use borrow.Author.Tests.{eq-eqb, leb-true, leb-false}
use lib.Dec.{leb, eqb}
use lib.ListN.{length, take, drop, drop_of_length-le}
use Rattle.field.specs.Test.{every}
use Rattle.field.specs.Digits.{digit, digits_fault}
use Rattle.field.specs.Text.{text_byte, blank, starts_blank, text_fault, filled_fault, part}
use Rattle.field.proofs.Tests.{and_left, and_right, and-true}
use Rattle.field.proofs.Texts.{text-blank, text-other, filled-other}
use Rattle.field.proofs.Faults.{no-fault}
use Rattle.field_test.specs.Pattern.{digits_where}

no-pattern : (s : List ℕ) → digits_where s [] ≡ true
no-pattern [] = refl
no-pattern (x ∷ xs) = refl

pub where-end : (s pattern : List ℕ) (i : ℕ) (bad : Bool) → min (length s) (length pattern) ≤ i
    → not bad && digits_where (drop i s) (drop i pattern) ≡ not bad
where-end s pattern i bad h = by-test (leb (length s) (length pattern)) refl
  where
    by-test : (t : Bool) → leb (length s) (length pattern) ≡ t
        → not bad && digits_where (drop i s) (drop i pattern) ≡ not bad
    by-test true e =
        let k : length s ≤ length pattern = leb-true (length s) (length pattern) e in
        rw (drop_of_length-le s {i = i} (omega (arith, min-eq_left k))) (and-true (not bad))
    by-test false e =
        let k : length pattern < length s = leb-false (length s) (length pattern) e in
        let less : length pattern ≤ length s = omega arith in
        rw (drop_of_length-le pattern {i = i} (omega (arith, min-eq_right less)), no-pattern (drop i s)) (and-true (not bad))

-- so many nines
abbrev pub nines : ℕ → List ℕ
nines zero = []
nines (suc n) = 57 ∷ nines n

abbrev wanted : ℕ → ℕ → Bool
wanted x p = not (eqb p 57 && not (digit x))

where-drop : (n : ℕ) (s pattern : List ℕ) → digits_where s pattern ≡ true → digits_where (drop n s) (drop n pattern) ≡ true
where-drop zero s pattern e = e
where-drop (suc n) [] pattern e = refl
where-drop (suc n) (x ∷ xs) [] e = no-pattern (drop n xs)
where-drop (suc n) (x ∷ xs) (p ∷ ps) e = where-drop n xs ps (and_right (wanted x p) (digits_where xs ps) e)

where-run : (n : ℕ) (s pattern : List ℕ) → take n pattern ≡ nines n → digits_where s pattern ≡ true
    → every digit (take n s) ≡ true
where-run zero s pattern q e = refl
where-run (suc n) [] pattern q e = refl
where-run (suc n) (x ∷ xs) [] q e = let z : ◌≡◌ {A = ℕ} 0 1 = cc in absurd (omega arith)
where-run (suc n) (x ∷ xs) (p ∷ ps) q e =
    let nine : p ≡ 57 = cc in
    let more : take n ps ≡ nines n = cc in
    let here : wanted x p ≡ true = and_left (wanted x p) (digits_where xs ps) e in
    by-digit (digit x) (rw (eq-eqb p 57 nine) at here) (where-run n xs ps more (and_right (wanted x p) (digits_where xs ps) e))
  where
    by-digit : (t : Bool) → not (true && not t) ≡ true → every digit (take n xs) ≡ true → t && every digit (take n xs) ≡ true
    by-digit true h k = k
    by-digit false h k = h

-- a numeric field at whose bytes the pattern has nines has no fault
pub digits-where : (s pattern : List ℕ) (start end : ℕ) → digits_where s pattern ≡ true
    → part pattern start end ≡ nines (end - start)
    → digits_fault (part s start end) ≡ 0
unfolding digits_fault
digits-where s pattern start end e q =
    no-fault digit (part s start end) 1
    (where-run (end - start) (drop start s) (drop start pattern) q (where-drop start s pattern e))

-- a text that does not begin blank has no fault where every byte may stand in it, whether or not it may be blank
module _ (s : List ℕ) (e : starts_blank s ≡ false) (p : every text_byte s ≡ true) where
  pub begun-text : text_fault s ≡ 0
  begun-text = text-other s e ∙ no-fault text_byte s 1 p

  pub begun-filled : filled_fault s ≡ 0
  begun-filled = filled-other s e ∙ no-fault text_byte s 1 p

-- nor has one that is blank
blank-begins : (s : List ℕ) → blank s ≡ true → starts_blank s ≡ true
blank-begins [] e = refl
blank-begins (x ∷ xs) e = and_left (eqb x 32) (blank xs) e

pub blank-text : (s : List ℕ) → blank s ≡ true → text_fault s ≡ 0
blank-text s e = text-blank s (blank-begins s e) ∙ simp e
