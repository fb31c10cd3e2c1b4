-- Laws of records of a set that rise: what the sequence compares, eight bytes at a time.
-- Assumes nothing.
use Prim.Native.Nat.{ℕ, zero, suc, ◌-◌, ◌/◌, ◌≤◌, ◌<◌}
use mathlib.Core.Path.{◌≡◌, refl, sym, ap, ◌∙◌}
use mathlib.Core.Bool.{Bool, true, false, cond, ◌&&◌, ◌||◌, false≢true}
use mathlib.Core.List.{List, [], ◌++◌, append_assoc, append-nil}
use native.Mathlib.Omega.{arith}
use borrow.Author.Tests.{eqb-true, eqb-false, ltb-true}
use lib.Dec.{eqb, ltb, lit≤}
use lib.ListN.{length, take}
use Rattle.field.specs.Text.{part}
use Rattle.field.proofs.Parts.{part_join}
use Rattle.field_word.specs.Word.{weight, Bytes, Weight}
use Rattle.file_record.specs.Parts.{record_at}
use Rattle.file_record.proofs.Records.{part_length, part-part, record-length}
use Rattle.std.specs.Ordering.{is_gt, ordering_then}
use Rattle.file_compare.specs.Order.{order, ordering, same, above}
use Rattle.file_compare.proofs.Order.{order-equal, order-bound, front_below, above-yes}
use Rattle.file_compare.proofs.Orderings.{above_ordering}
use Rattle.file_compare.proofs.Words.{order-behind, order-join, weight-above, weight-same}

-- a record has its bytes
pub long : (w n : ℕ) (file : List ℕ) (i : ℕ) → i < length file / w → n ≤ w → n ≤ length (record_at w file i)
long w n file i has less = omega (arith, record-length w file i has)

-- a test that is known where another holds
pub or-known : (t u v : Bool) → (u ≡ true → v ≡ true) → t || u ≡ true → t || v ≡ true
or-known true u v known e = refl
or-known false u v known e = known e

-- two things compared, the second where the first are the same
pub joined-above : (p q x y : List ℕ) → length p ≡ length q
    → is_gt (ordering_then (ordering (order p q)) (ordering (order x y))) ≡ above (p ++ x) (q ++ y)
joined-above p q x y e = by-number (order p q) (order-bound p q) (sym (ap (λ n. eqb n 2) (order-join p q x y e)))
  where
    by-number : (n : ℕ) → n ≤ 2 → eqb (cond (eqb n 0) (order x y) n) 2 ≡ above (p ++ x) (q ++ y)
        → is_gt (ordering_then (ordering n) (ordering (order x y))) ≡ above (p ++ x) (q ++ y)
    by-number zero h o = above_ordering x y ∙ o
    by-number (suc zero) h o = o
    by-number (suc (suc zero)) h o = o
    by-number (suc (suc (suc n))) h o = absurd (omega arith)

-- parts of records that have them are as long as each other
pub alike : (a b : List ℕ) (start end : ℕ) → start ≤ end → end ≤ length a → end ≤ length b
    → length (part a start end) ≡ length (part b start end)
alike a b start end ordered in_a in_b = part_length a start end ordered in_a ∙ sym (part_length b start end ordered in_b)

two-left : (m : ℕ) → m ≤ 2 → (m ≡ 0 → ⊥) → (m ≡ 1 → ⊥) → m ≡ 2
two-left zero h none one = absurd (none refl)
two-left (suc zero) h none one = absurd (one refl)
two-left (suc (suc zero)) h none one = refl
two-left (suc (suc (suc m))) h none one = absurd (omega arith)

module _ (a b : List ℕ) where
  -- a key whose eight bytes are above, and that is another
  pub short-above : (n : ℕ) → n ≤ 8 → above (part a 0 8) (part b 0 8) ≡ true → same (part a 0 n) (part b 0 n) ≡ false
      → above (part a 0 n) (part b 0 n) ≡ true
  short-above n h over other =
      let all : n - 0 ≡ n = omega arith in
      rw all
      (above-yes (take n a) (take n b)
      (two-left (order (take n a) (take n b)) (order-bound (take n a) (take n b))
      (eqb-false (order (take n a) (take n b)) 0 (rw all at other))
      (λ below. one-two (sym (front_below n 8 a b h below) ∙ eqb-true (order (take 8 a) (take 8 b)) 2 over))))
    where
      one-two : ◌≡◌ {A = ℕ} 1 2 → ⊥
      one-two e = omega (arith, e)

  -- an organisation of the same type whose key is above
  pub organisation-above : above (part a 0 8) (part b 0 8) ≡ true → same (part a 8 9) (part b 8 9) ≡ true
      → above (part a 8 9 ++ part a 0 8) (part b 8 9 ++ part b 0 8) ≡ true
  organisation-above over alike-type =
      let type : part a 8 9 ≡ part b 8 9 =
      order-equal (part a 8 9) (part b 8 9) (eqb-true (order (part a 8 9) (part b 8 9)) 0 alike-type) in
      rw (type, order-behind (part b 8 9) (part a 0 8) (part b 0 8)) over

-- an address, by its first eight bytes, its address key and its organisation key
abbrev address_keys : List ℕ → List ℕ
address_keys x = part x 0 15 ++ part x 69 77

split-eight : (x : List ℕ) → address_keys x ≡ part x 0 8 ++ (part x 8 15 ++ part x 69 77)
split-eight x = ap (λ s. s ++ part x 69 77) (part_join x 0 8 15 (lit≤ tt) (lit≤ tt)) ∙ append_assoc (part x 0 8) (part x 8 15) (part x 69 77)

split-seven : (x : List ℕ) → address_keys x ≡ part x 0 7 ++ (part x 7 15 ++ part x 69 77)
split-seven x = ap (λ s. s ++ part x 69 77) (part_join x 0 7 15 (lit≤ tt) (lit≤ tt)) ∙ append_assoc (part x 0 7) (part x 7 15) (part x 69 77)

module _ (a b : List ℕ) (in_a : 88 ≤ length a) (in_b : 88 ≤ length b) where
  equal-long : (start end : ℕ) → start ≤ end → end ≤ 88 → length (part a start end) ≡ length (part b start end)
  equal-long start end ordered less = alike a b start end ordered (omega arith) (omega arith)

  by-postcode : Bytes (part a 0 8) → Bytes (part b 0 8) → weight (part b 0 8) < weight (part a 0 8)
      → order (address_keys a) (address_keys b) ≡ 2
  by-postcode s t h =
      rw (split-eight a, split-eight b)
      (weight-above (part a 0 8) (part b 0 8) (part a 8 15 ++ part a 69 77) (part b 8 15 ++ part b 69 77) (equal-long 0 8 (lit≤ tt) (lit≤ tt)) s t h)

  -- seven of the same eight bytes
  seven : part a 0 8 ≡ part b 0 8 → part a 0 7 ≡ part b 0 7
  seven e = sym (part-part a 0 8 0 7 (lit≤ tt)) ∙ (ap (λ s. part s 0 7) e ∙ part-part b 0 8 0 7 (lit≤ tt))

  by_key : part a 0 8 ≡ part b 0 8 → Bytes (part a 7 15) → Bytes (part b 7 15) → weight (part b 7 15) < weight (part a 7 15)
      → order (address_keys a) (address_keys b) ≡ 2
  by_key e s t h =
      rw (split-seven a, split-seven b, seven e)
      (order-behind (part b 0 7) (part a 7 15 ++ part a 69 77) (part b 7 15 ++ part b 69 77)
      ∙ weight-above (part a 7 15) (part b 7 15) (part a 69 77) (part b 69 77) (equal-long 7 15 (lit≤ tt) (lit≤ tt)) s t h)

  by-organisation : part a 0 8 ≡ part b 0 8 → part a 7 15 ≡ part b 7 15 → Bytes (part a 69 77) → Bytes (part b 69 77)
      → weight (part b 69 77) < weight (part a 69 77)
      → order (address_keys a) (address_keys b) ≡ 2
  by-organisation e f s t h =
      let last : order (part a 69 77) (part b 69 77) ≡ 2 =
      rw (append-nil (part a 69 77), append-nil (part b 69 77)) at
      (weight-above (part a 69 77) (part b 69 77) [] [] (equal-long 69 77 (lit≤ tt) (lit≤ tt)) s t h) in
      rw (split-seven a, split-seven b, seven e, f)
      (order-behind (part b 0 7) (part b 7 15 ++ part a 69 77) (part b 7 15 ++ part b 69 77)
      ∙ (order-behind (part b 7 15) (part a 69 77) (part b 69 77) ∙ last))

  module _ (x y u v p q : ℕ) (wx : Weight (part a 0 8) x) (wy : Weight (part b 0 8) y) (wu : Weight (part a 7 15) u)
      (wv : Weight (part b 7 15) v) (wp : Weight (part a 69 77) p) (wq : Weight (part b 69 77) q)
    where
      pub address_above : ltb y x || (eqb y x && (ltb v u || (eqb v u && ltb q p))) ≡ true
          → above (part a 0 15 ++ part a 69 77) (part b 0 15 ++ part b 69 77) ≡ true
      address_above e =
          above-yes (address_keys a) (address_keys b)
          (by_tests (ltb y x) (eqb y x) (ltb v u) (eqb v u) (ltb q p) refl refl refl refl refl e)
        where
          front : eqb y x ≡ true → part a 0 8 ≡ part b 0 8
          front h =
              weight-same (part a 0 8) (part b 0 8) (equal-long 0 8 (lit≤ tt) (lit≤ tt)) wx.small wy.small
              (sym wx.is ∙ (sym (eqb-true y x h) ∙ wy.is))

          key : eqb v u ≡ true → part a 7 15 ≡ part b 7 15
          key h =
              weight-same (part a 7 15) (part b 7 15) (equal-long 7 15 (lit≤ tt) (lit≤ tt)) wu.small wv.small
              (sym wu.is ∙ (sym (eqb-true v u h) ∙ wv.is))

          by_tests : (k l m n o : Bool) → ltb y x ≡ k → eqb y x ≡ l → ltb v u ≡ m → eqb v u ≡ n → ltb q p ≡ o
              → k || (l && (m || (n && o))) ≡ true
              → order (address_keys a) (address_keys b) ≡ 2
          by_tests true l m n o h₀ h₁ h₂ h₃ h₄ e =
              by-postcode wx.small wy.small (omega (arith, ltb-true y x h₀, wx.is, wy.is))
          by_tests false true true n o h₀ h₁ h₂ h₃ h₄ e =
              by_key (front h₁) wu.small wv.small (omega (arith, ltb-true v u h₂, wu.is, wv.is))
          by_tests false true false true true h₀ h₁ h₂ h₃ h₄ e =
              by-organisation (front h₁) (key h₃) wp.small wq.small (omega (arith, ltb-true q p h₄, wp.is, wq.is))
          by_tests false true false true false h₀ h₁ h₂ h₃ h₄ e = absurd (false≢true e)
          by_tests false true false false o h₀ h₁ h₂ h₃ h₄ e = absurd (false≢true e)
          by_tests false false m n o h₀ h₁ h₂ h₃ h₄ e = absurd (false≢true e)
