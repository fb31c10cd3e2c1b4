-- Laws of faults in a record.
-- Assumes nothing.
use Prim.Native.Nat.{ℕ, zero, suc, ◌+◌, ◌-◌, ◌≤◌, ◌<◌}
use mathlib.Core.Path.{◌≡◌, refl, sym, ap, ◌∙◌}
use mathlib.Core.Bool.{Bool, true, false, cond}
use mathlib.Core.List.{List, [], ◌∷◌, ◌++◌}
use native.Mathlib.Omega.{arith}
use native.Mathlib.Numerals.{add-one}
use native.Mathlib.Nat.{add-zero, add-suc}
use borrow.Author.Tests.{leb-true, leb-false}
use lib.Dec.{leb, lit≤}
use lib.ListN.{length, take, drop, get_or, length-drop, drop_of_length-le}
use lib.Seq.{length-take-le, take-nil}
use Rattle.field.specs.Test.{elem, fault_from, first_fault}
use Rattle.field.specs.Digits.{digit, digits_fault}
use Rattle.field.specs.Text.{part}
use Rattle.field.proofs.Texts.{part-bound, part-byte}
use Rattle.field.proofs.Parts.{part_join}
use Rattle.field.proofs.Faults.{fault-bound}
use Rattle.file_fault.specs.Fields.{place, first, one_of}

pub place-some : (start fault : ℕ) → (fault ≡ 0 → ⊥) → place start fault ≡ start + fault
place-some start zero n = absurd (n refl)
place-some start (suc fault) n = refl

pub first_some : (fault rest : ℕ) → (fault ≡ 0 → ⊥) → first fault rest ≡ fault
first_some zero rest n = absurd (n refl)
first_some (suc fault) rest n = refl

-- a field of one byte, read in the record
pub one_byte : (bytes rec : List ℕ) (at : ℕ)
    → one_of bytes (part rec at (at + 1)) ≡ cond (elem (get_or rec at 0) bytes) 0 1
unfolding one_of
one_byte bytes rec at = rw (part-byte rec at)

-- a field's fault stays within the record
module _ (rec : List ℕ) (start end : ℕ) (ordered : start ≤ end) (small : end ≤ 1000) where
  pub in-record : (fault : ℕ) → fault ≤ 1 + length (part rec start end) → start + fault ≤ 4096
  in-record fault h = omega (arith, part-bound rec start end)

pub digits-bound : (s : List ℕ) → digits_fault s ≤ 1 + length s
unfolding digits_fault
digits-bound s = fault-bound _ s 1

-- one more in front of a fault
first_more : (a b rest : ℕ) → first a (first b rest) ≡ first (first a b) rest
first_more zero b rest = refl
first_more (suc a) b rest = refl

-- a place counted on is a place moved on
from_place : (ok : ℕ → Bool) (s : List ℕ) (start at : ℕ)
    → place start (fault_from ok (suc at) s) ≡ fault_from ok (start + suc at) s
from_place ok [] start at = refl
from_place ok (x ∷ xs) start at = by-test (ok x) (from_place ok xs start (suc at) ∙ rw (add-suc start (suc at)))
  where
    by-test : (t : Bool) → place start (fault_from ok (suc (suc at)) xs) ≡ fault_from ok (suc (start + suc at)) xs
        → place start (cond t (fault_from ok (suc (suc at)) xs) (suc at))
        ≡ cond t (fault_from ok (suc (start + suc at)) xs) (start + suc at)
    by-test true h = h
    by-test false h = refl

-- the first fault of two parts, one behind the other
from-append : (ok : ℕ → Bool) (a b : List ℕ) (at : ℕ)
    → fault_from ok (suc at) (a ++ b) ≡ first (fault_from ok (suc at) a) (fault_from ok (suc at + length a) b)
from-append ok [] b at = rw (add-zero (suc at))
from-append ok (x ∷ xs) b at =
    let moved : suc (suc at) + length xs ≡ suc at + suc (length xs) = omega arith in
    by-test (ok x) (rw moved at (from-append ok xs b (suc at)))
  where
    by-test : (t : Bool)
        → fault_from ok (suc (suc at)) (xs ++ b)
        ≡ first (fault_from ok (suc (suc at)) xs) (fault_from ok (suc at + suc (length xs)) b)
        → cond t (fault_from ok (suc (suc at)) (xs ++ b)) (suc at)
        ≡ first (cond t (fault_from ok (suc (suc at)) xs) (suc at)) (fault_from ok (suc at + suc (length xs)) b)
    by-test true h = h
    by-test false h = refl

-- two neighbouring parts are one
module _ (rec : List ℕ) (start middle end : ℕ) (low : start ≤ middle) (high : middle ≤ end) where
  -- the second part begins where the first ends, or has no bytes
  second-place : (ok : ℕ → Bool)
      → fault_from ok (start + 1 + length (part rec start middle)) (part rec middle end)
      ≡ fault_from ok (middle + 1) (part rec middle end)
  second-place ok = by-test (leb middle (length rec)) refl
    where
      by-test : (t : Bool) → leb middle (length rec) ≡ t
          → fault_from ok (start + 1 + length (part rec start middle)) (part rec middle end)
          ≡ fault_from ok (middle + 1) (part rec middle end)
      by-test true e =
          let h : middle ≤ length rec = leb-true middle (length rec) e in
          let size : length (part rec start middle) ≡ middle - start =
          length-take-le (middle - start) (drop start rec) (simp length-drop (omega arith)) in
          let at : start + 1 + (middle - start) ≡ middle + 1 = omega arith in
          rw (size, at)
      by-test false e =
          let h : length rec < middle = leb-false middle (length rec) e in
          let past : length rec ≤ middle = omega arith in
          let none : part rec middle end ≡ [] =
          ap (take (end - middle)) (drop_of_length-le rec past) ∙ take-nil (end - middle) in
          rw none

  pub fields_join : (ok : ℕ → Bool)
      → first (place start (first_fault ok (part rec start middle))) (place middle (first_fault ok (part rec middle end)))
      ≡ place start (first_fault ok (part rec start end))
  fields_join ok =
      rw (from_place ok (part rec start middle) start 0, from_place ok (part rec middle end) middle 0)
      (sym
      (from_place ok (part rec start end) start 0
      ∙ (ap (fault_from ok (start + 1)) (part_join rec start middle end low high)
      ∙ (appended
      ∙ ap (first (fault_from ok (start + 1) (part rec start middle))) (second-place ok)))))
    where
      appended : fault_from ok (start + 1) (part rec start middle ++ part rec middle end)
          ≡ first (fault_from ok (start + 1) (part rec start middle))
          (fault_from ok (start + 1 + length (part rec start middle)) (part rec middle end))
      appended = rw add-one (from-append ok (part rec start middle) (part rec middle end) start)

  -- two neighbouring numeric fields are read as one
  pub digits-join : (rest : ℕ)
      → first (place start (digits_fault (part rec start middle)))
      (first (place middle (digits_fault (part rec middle end))) rest)
      ≡ first (place start (digits_fault (part rec start end))) rest
  unfolding digits_fault
  digits-join rest =
      first_more (place start (first_fault digit (part rec start middle)))
      (place middle (first_fault digit (part rec middle end))) rest
      ∙ ap (λ fault. first fault rest) (fields_join digit)

-- the keys, the number and the households of a view are 64 digits in a row
abbrev digits_in : List ℕ → ℕ → ℕ → ℕ
digits_in rec start end = place start (digits_fault (part rec start end))

pub view-digits : (rec : List ℕ) (rest : ℕ)
    → first (digits_in rec 42 50)
    (first (digits_in rec 50 58)
    (first (digits_in rec 58 66)
    (first (digits_in rec 66 74)
    (first (digits_in rec 74 82)
    (first (digits_in rec 82 86)
    (first (digits_in rec 86 94) (first (digits_in rec 94 102) (first (digits_in rec 102 106) rest))))))))
    ≡ first (digits_in rec 42 106) rest
view-digits rec rest =
    digits-join rec 42 50 58 (lit≤ tt) (lit≤ tt) _
    ∙ (digits-join rec 42 58 66 (lit≤ tt) (lit≤ tt) _
    ∙ (digits-join rec 42 66 74 (lit≤ tt) (lit≤ tt) _
    ∙ (digits-join rec 42 74 82 (lit≤ tt) (lit≤ tt) _
    ∙ (digits-join rec 42 82 86 (lit≤ tt) (lit≤ tt) _
    ∙ (digits-join rec 42 86 94 (lit≤ tt) (lit≤ tt) _
    ∙ (digits-join rec 42 94 102 (lit≤ tt) (lit≤ tt) _ ∙ digits-join rec 42 102 106 (lit≤ tt) (lit≤ tt) rest))))))
