-- Laws of fields that are tested at once, many bytes at a time.
-- Assumes nothing.
use Prim.Native.Nat.{ℕ, ◌+◌, ◌≤◌}
use mathlib.Core.Path.{◌≡◌, refl}
use mathlib.Core.Bool.{Bool, true, false, cond, not, ◌&&◌, ◌||◌, true≢false, false≢true}
use mathlib.Core.List.{List, [], ◌∷◌}
use native.Mathlib.Omega.{arith}
use lib.Dec.{eqb}
use Rattle.field.specs.Test.{every, only}
use Rattle.field.specs.Digits.{digit, digits_fault}
use Rattle.field.specs.Text.{text_byte, blank, starts_blank, text_fault, filled_fault, part}
use Rattle.field.proofs.Tests.{and_left, and_right, and-false}
use Rattle.field.proofs.Faults.{no-fault}
use Rattle.field.proofs.Parts.{every_append, every_front, every_back, part_join}
use Rattle.field_test.proofs.Laws.{begun-text, begun-filled, blank-text}
use Rattle.file_fault.specs.Fields.{key_fault}
use Rattle.file_fault.specs.Table.{double_fault}

pub three : (a b c : Bool) → a && (b && c) ≡ true → (a ≡ true) × (b ≡ true) × (c ≡ true)
three a b c e =
    let more = and_right a (b && c) e in
    (and_left a (b && c) e, and_left b c more, and_right b c more)

-- what was refused together was refused apart
pub neither : (a b : Bool) → a || b ≡ false → (a ≡ false) × (b ≡ false)
neither true b e = absurd (true≢false e)
neither false b e = (refl, e)

pub digits-none : (s : List ℕ) → every digit s ≡ true → digits_fault s ≡ 0
unfolding digits_fault
digits-none s e = no-fault digit s 1 e

begun-not-blank : (s : List ℕ) → starts_blank s ≡ false → blank s ≡ false
begun-not-blank [] e = absurd (true≢false e)
begun-not-blank (x ∷ xs) e = simp e

module _ (rec : List ℕ) where
  -- a part from two that overlap
  pub overlap : (ok : ℕ → Bool) (start low high end : ℕ) → start ≤ high → low ≤ high → high ≤ end
      → every ok (part rec start high) ≡ true
      → every ok (part rec low end) ≡ true
      → every ok (part rec start end) ≡ true
  overlap ok start low high end h k l front back =
      rw (part_join rec start high end h l)
      (every_append ok (part rec start high) (part rec high end) front
      (every_back ok (part rec low high) (part rec high end) (rw (part_join rec low high end k l) at back)))

  -- a part of a part
  pub inside : (ok : ℕ → Bool) (start low high end : ℕ) → start ≤ low → low ≤ high → high ≤ end
      → every ok (part rec start end) ≡ true
      → every ok (part rec low high) ≡ true
  inside ok start low high end h k l all =
      every_front ok (part rec low high) (part rec high end)
      (rw (part_join rec low high end k l) at
      (every_back ok (part rec start low) (part rec low end) (rw (part_join rec start low end h (omega arith)) at all)))

  -- town, dependent and double dependent locality from two parts that overlap
  pub three-texts : (town : ℕ) → every text_byte (part rec town (town + 96)) ≡ true
      → every text_byte (part rec (town + 84) (town + 100)) ≡ true
      → (every text_byte (part rec town (town + 30)) ≡ true)
      × (every text_byte (part rec (town + 30) (town + 65)) ≡ true)
      × (every text_byte (part rec (town + 65) (town + 100)) ≡ true)
  three-texts town most rest =
      let all = overlap text_byte town (town + 84) (town + 96) (town + 100) (omega arith) (omega arith) (omega arith) most rest in (
        inside text_byte town town (town + 30) (town + 100) (omega arith) (omega arith) (omega arith) all,
        inside text_byte town (town + 30) (town + 65) (town + 100) (omega arith) (omega arith) (omega arith) all,
        inside text_byte town (town + 65) (town + 100) (town + 100) (omega arith) (omega arith) (omega arith) all,
      )

  -- name and department from two parts that overlap
  pub names-text : (name : ℕ) → every text_byte (part rec name (name + 112)) ≡ true
      → every text_byte (part rec (name + 104) (name + 120)) ≡ true
      → (every text_byte (part rec name (name + 60)) ≡ true) × (every text_byte (part rec (name + 60) (name + 120)) ≡ true)
  names-text name most rest =
      let all = overlap text_byte name (name + 104) (name + 112) (name + 120) (omega arith) (omega arith) (omega arith) most rest in (
        inside text_byte name name (name + 60) (name + 120) (omega arith) (omega arith) (omega arith) all,
        inside text_byte name (name + 60) (name + 120) (name + 120) (omega arith) (omega arith) (omega arith) all,
      )

  -- spaces behind spaces
  pub blank-on : (i j k e : ℕ) → e ≡ j → i ≤ j → j ≤ k → blank (part rec i e) ≡ true → blank (part rec j k) ≡ true
      → blank (part rec i k) ≡ true
  blank-on i j k e is p q front back =
      rw (part_join rec i j k p q)
      (every_append (λ x. eqb x 32) (part rec i j) (part rec j k) (rw is at front) back)

  -- six spaces, by two parts that overlap
  pub box-blank : (start : ℕ) → blank (part rec start (start + 4)) ≡ true → blank (part rec (start + 2) (start + 2 + 4)) ≡ true
      → blank (part rec start (start + 6)) ≡ true
  box-blank start front back =
      let end : start + 2 + 4 ≡ start + 6 = omega arith in
      overlap (λ x. eqb x 32) start (start + 2) (start + 4) (start + 6) (omega arith) (omega arith) (omega arith) front (rw end at back)

-- a text that begins, or is known to be blank
pub begun-or-known : (t r : Bool) (s : List ℕ) → starts_blank s ≡ t → (r ≡ true → blank s ≡ true) → not t || r ≡ true
    → every text_byte s ≡ true
    → text_fault s ≡ 0
begun-or-known true r s start known e p = blank-text s (known e)
begun-or-known false r s start known e p = begun-text s start p

-- a name that begins, whether or not it may be blank
pub begun-name : (small : Bool) (s : List ℕ) → starts_blank s ≡ false → every text_byte s ≡ true
    → cond small (filled_fault s) (text_fault s) ≡ 0
begun-name true s start p = begun-filled s start p
begun-name false s start p = begun-text s start p

-- a text behind another: where it begins, the other does
module _ (s : List ℕ) (p : every text_byte s ≡ true) where
  pub double-text : (dependent : List ℕ) (t u v : Bool) → starts_blank dependent ≡ t → starts_blank s ≡ v
      → (u ≡ true → blank s ≡ true)
      → u || (not v && not t) ≡ true
      → double_fault dependent s ≡ 0
  unfolding double_fault
  double-text dependent t true v front start none e =
      simp (none refl, and-false (blank dependent)) (blank-text s (none refl))
  double-text dependent t false true front start none e = absurd (false≢true e)
  double-text dependent true false false front start none e = absurd (false≢true e)
  double-text dependent false false false front start none e =
      simp (begun-not-blank dependent front) (begun-text s start p)

-- a key of digits that is not zero
pub key-none : (s : List ℕ) → only 48 s ≡ false → digits_fault s ≡ 0 → key_fault s ≡ 0
unfolding key_fault
key-none s zero digits = rw zero digits
