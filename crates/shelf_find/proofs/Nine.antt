-- Nine digits of a record compared with a number as they stand.
-- Assumes nothing.
use Prim.Native.Nat.{ℕ, ◌+◌, ◌-◌, ◌*◌, ◌%◌, ◌^◌, ◌≤◌, ◌<◌}
use mathlib.Core.Path.{◌≡◌, refl, sym, ap, ◌∙◌}
use mathlib.Core.Bool.{Bool, true, false, ◌&&◌, ◌||◌}
use mathlib.Core.List.{List, ◌∷◌}
use native.Mathlib.Omega.{arith}
use native.Mathlib.Nat.{zero-add}
use borrow.Author.Tests.{lt-ltb, le-ltb, ltb-true, ltb-false, eqb-true, eqb-false}
use lib.Dec.{eqb, ltb}
use lib.ListN.{length, get_or}
use Rattle.field.specs.Test.{every}
use Rattle.field.specs.Digits.{digit, digit_value, value_from, value}
use Rattle.field.specs.Text.{part}
use Rattle.field.proofs.Tests.{and_left, and_right}
use Rattle.field.proofs.Values.{digit-again, value-whole, value-bound, first-digit}
use Rattle.field_word.specs.Word.{weight, digits_of, Weight}
use Rattle.field_word.proofs.Laws.{taken, part-eight}
use Rattle.field_word.proofs.Digits.{weigh-alike}
use Rattle.field_word.proofs.Numbers.{of-digits, of_length, of-value}
use Rattle.file_record.proofs.Records.{record-length}
use Rattle.shelf.specs.declared.Shelf.{Shelf}
use Rattle.shelf.specs.Shelf.{Fit, record_of, last_of, ref_at}
use Rattle.shelf_find.specs.Nine.{Nine}

-- nine bytes: the first, and eight behind it
pub nine-bytes : (rec : List ℕ) (at : ℕ) → at + 9 ≤ length rec
    → part rec at (at + 9) ≡ get_or rec at 0 ∷ part rec (at + 1) (at + 1 + 8)
nine-bytes rec at h =
    let nine : at + 9 - at ≡ 9 = omega arith in
    let eight : at + 1 + 8 - (at + 1) ≡ 8 = omega arith in
    rw (nine, eight) (taken rec at (at + 1) 8 refl (omega arith))

pub nine-digits : (rec : List ℕ) (at : ℕ) → at + 9 ≤ length rec → digit (get_or rec at 0) ≡ true
    → every digit (part rec (at + 1) (at + 1 + 8)) ≡ true → every digit (part rec at (at + 9)) ≡ true
nine-digits rec at h first others = rw (nine-bytes rec at h, first) others

module _ (r first others : ℕ) (n : Nine r first others) where
  -- a digit and eight others say more than r, by what they say
  by_parts : (x v : ℕ) (t u w : Bool) → 48 + digit_value x ≡ x → v < 100_000_000
      → ltb first x ≡ t → eqb first x ≡ u → ltb (r % 100_000_000) v ≡ w
      → t || (u && w) ≡ ltb r (digit_value x * 100_000_000 + v)
  by_parts x v true u w is bound p q o = sym (lt-ltb r _ (omega (arith, ltb-true first x p, n.is_first)))
  by_parts x v false true true is bound p q o =
      sym (lt-ltb r _ (omega (arith, eqb-true first x q, ltb-true (r % 100_000_000) v o, n.is_first)))
  by_parts x v false true false is bound p q o =
      sym (le-ltb r _ (omega (arith, eqb-true first x q, ltb-false (r % 100_000_000) v o, n.is_first)))
  by_parts x v false false w is bound p q o =
      let other : first ≡ x → ⊥ = eqb-false first x q in
      sym (le-ltb r _ (omega (arith, ltb-false first x p, n.is_first, other)))

  -- and by their weight
  past : (x : ℕ) (s : List ℕ) → length s ≡ 8 → every digit (x ∷ s) ≡ true
      → ltb first x || (eqb first x && ltb others (weight s)) ≡ ltb r (value (x ∷ s))
  past x s long e =
      let key = r % 100_000_000 in
      let said : value (x ∷ s) ≡ digit_value x * 100_000_000 + value_from 0 s =
      value-whole (x ∷ s) (omega arith) ∙ (first-digit x s ∙ ap (λ k. digit_value x * 10 ^ k + value_from 0 s) long) in
      let alike : ltb others (weight s) ≡ ltb key (value_from 0 s) =
      ap (λ w. ltb w (weight s)) n.are_others
      ∙ (weigh-alike (digits_of 8 key) s (of_length 8 key ∙ sym long) (of-digits 8 key) (and_right (digit x) (every digit s) e)
      ∙ ap (λ v. ltb v (value_from 0 s)) (of-value 8 key (omega arith))) in
      rw (said, alike)
      (by_parts x (value_from 0 s) (ltb first x) (eqb first x) (ltb key (value_from 0 s))
      (digit-again x (and_left (digit x) (every digit s) e)) (rw long at (value-bound s)) refl refl refl)

  -- the same of nine digits in a record
  pub past-nine : (rec : List ℕ) (at w : ℕ) → at + 9 ≤ length rec → Weight (part rec (at + 1) (at + 1 + 8)) w
      → every digit (part rec at (at + 9)) ≡ true
      → ltb first (get_or rec at 0) || (eqb first (get_or rec at 0) && ltb others w) ≡ ltb r (value (part rec at (at + 9)))
  past-nine rec at w h weighs e =
      rw (nine-bytes rec at h, weighs.is)
      (past (get_or rec at 0) (part rec (at + 1) (at + 1 + 8)) (part-eight rec (at + 1) (omega arith)) (rw (nine-bytes rec at h) at e))

-- a shelf whose numbers are nine digits, to which nothing is added
module _ (s : Shelf) (file : List ℕ) (i : ℕ) (nine : s.digits ≡ 9) where
  pub nine-there : Fit s → i < last_of s file → s.key + 9 ≤ length (record_of s file i)
  nine-there fit h = omega (arith, record-length s.width file i (omega arith), fit.key_within)

  pub ref-past : (r : ℕ) (q : Bool) → s.base ≡ 0 → q ≡ ltb r (value (part (record_of s file i) s.key (s.key + 9)))
      → q ≡ ltb r (ref_at s file i)
  unfolding ref_at
  ref-past r q none e = e ∙ ap (ltb r) (rw (nine, none) (sym (zero-add _)))
