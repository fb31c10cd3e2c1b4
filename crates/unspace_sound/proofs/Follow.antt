-- Owners and followers in a rewritten point file: "No header or trailer is an owner or a follower: a record begins with the
-- digits of its date, and an identifier has none", neither before nor after.
-- Assumes nothing.
use Prim.Native.Nat.{ℕ, ◌-◌, ◌≤◌, ◌<◌}
use mathlib.Core.Path.{◌≡◌, refl, sym, ap, ◌∙◌}
use mathlib.Core.Bool.{Bool, true, false, not, ◌&&◌, true≢false}
use mathlib.Core.List.{List, [], ◌∷◌}
use native.Mathlib.Omega.{arith}
use borrow.Author.Tests.{eqb-true, ne_eqb, ltb-true, ltb-false}
use lib.Dec.{eqb, ltb, lit<}
use lib.ListN.{length, get_or}
use lib.Seq.{ext_get_or, get_or-take}
use Rattle.field.specs.Test.{only}
use Rattle.field.specs.Digits.{digit}
use Rattle.field.specs.Text.{part}
use Rattle.field.proofs.Tests.{and_left}
use Rattle.file_record.specs.Names.Point
use Rattle.file_record.proofs.Records.{part_length}
use Rattle.file_compare.specs.Order.{order, same}
use Rattle.file_compare.proofs.Order.{order-equal}
use Rattle.file_fault.specs.Point.{point_fault}
use Rattle.file_fault.proofs.Passing.{point-passes, digits-pass}
use Rattle.file.specs.Formats.{needed, follows}
use Rattle.unspace_sound.proofs.Ends.{spaced, Renewed}

-- bytes that begin otherwise are not the same
same-other : (a b : List ℕ) → (get_or a 0 0 ≡ get_or b 0 0 → ⊥) → same a b ≡ false
same-other a b h = ne_eqb (order a b) 0 (λ e. h (ap (λ (l : List ℕ). get_or l 0 0) (order-equal a b e)))

-- a record that has no fault begins with a digit
pub begins-digit : (rec : List ℕ) → 1 ≤ length rec → point_fault rec ≡ 0 → digit (get_or rec 0 0) ≡ true
begins-digit [] long e = absurd (omega arith)
begins-digit (x ∷ rec) long e = and_left (digit x) _ (digits-pass (part (x ∷ rec) 0 8) (point-passes (x ∷ rec) e).0.0)

-- the front of a record
pub front-byte : (l : List ℕ) (w j : ℕ) → j < w → get_or (part l 0 w) j 0 ≡ get_or l j 0
front-byte l w j h = get_or-take (w - 0) l j 0 (omega arith)

-- what is b throughout begins with b
begins-only : (b w : ℕ) (rec : List ℕ) → 1 ≤ w → w ≤ length rec → only b (part rec 0 w) ≡ true → get_or rec 0 0 ≡ b
begins-only b w rec some long e =
    sym (front-byte rec w 0 some) ∙ first (part rec 0 w) (omega (arith, part_length rec 0 w (omega arith) long)) e
  where
    first : (s : List ℕ) → 1 ≤ length s → only b s ≡ true → get_or s 0 0 ≡ b
    first [] h e = absurd (omega arith)
    first (x ∷ s) h e = eqb-true x b (and_left (eqb x b) (only b s) e)

-- a record that was not rewritten is as it was
pub renewed-same : (w b : ℕ) (old new : List ℕ) → Renewed w b old new → spaced w old ≡ false → new ≡ old
renewed-same w b old new r e = ext_get_or 0 new old r.long (λ j h. by-test j (ltb j w) refl)
  where
    by-test : (j : ℕ) (t : Bool) → ltb j w ≡ t → get_or new j 0 ≡ get_or old j 0
    by-test j true h =
        sym (front-byte new w j (ltb-true j w h)) ∙ (ap (λ (l : List ℕ). get_or l j 0) (r.other e) ∙ front-byte old w j (ltb-true j w h))
    by-test j false h = r.behind j (ltb-false j w h)

-- an identifier that is rewritten begins with no digit, before and after
module _ (w b : ℕ) (some : 1 ≤ w) (proper : digit b ≡ false) (old new : List ℕ) (r : Renewed w b old new) (rec : List ℕ)
    (dated : digit (get_or rec 0 0) ≡ true) where
  new-begins : spaced w old ≡ true → get_or new 0 0 ≡ b
  new-begins e = begins-only b w new some r.wide (r.spaces e)

  old-begins : spaced w old ≡ true → get_or old 0 0 ≡ 32
  unfolding spaced
  old-begins e = begins-only 32 w old some (omega (arith, r.wide, r.long)) e

  -- so that no record is the same as far as the type
  apart : (l : List ℕ) (c : ℕ) → get_or l 0 0 ≡ c → digit c ≡ false
      → get_or (part rec 0 Point.type) 0 0 ≡ get_or (part l 0 Point.type) 0 0
      → ⊥
  apart l c is undated e =
      true≢false
      (sym dated
      ∙ (ap digit (sym (front-byte rec Point.type 0 (lit< tt)) ∙ (e ∙ (front-byte l Point.type 0 (lit< tt) ∙ is))) ∙ undated))

  none : (t u : Bool) → t && (u && false) ≡ false
  none true true = refl
  none true false = refl
  none false u = refl

  owns_none : (l : List ℕ) (c : ℕ) → get_or l 0 0 ≡ c → digit c ≡ false → follows l rec ≡ false
  unfolding follows
  owns_none l c is undated =
      ap (λ (t : Bool). not (eqb (needed l) 0) && (eqb (get_or rec Point.type 0) (needed l) && t))
      (same-other (part rec 0 Point.type) (part l 0 Point.type) (apart l c is undated))
      ∙ none (not (eqb (needed l) 0)) (eqb (get_or rec Point.type 0) (needed l))

  follows-none : (l : List ℕ) (c : ℕ) → get_or l 0 0 ≡ c → digit c ≡ false → follows rec l ≡ false
  unfolding follows
  follows-none l c is undated =
      ap (λ (t : Bool). not (eqb (needed rec) 0) && (eqb (get_or l Point.type 0) (needed rec) && t))
      (same-other (part l 0 Point.type) (part rec 0 Point.type) (λ e. apart l c is undated (sym e)))
      ∙ none (not (eqb (needed rec) 0)) (eqb (get_or l Point.type 0) (needed rec))

  -- the header as an owner, the trailer as a follower
  pub owner-kept : follows new rec ≡ follows old rec
  owner-kept = by-test (spaced w old) refl
    where
      by-test : (t : Bool) → spaced w old ≡ t → follows new rec ≡ follows old rec
      by-test true e = owns_none new b (new-begins e) proper ∙ sym (owns_none old 32 (old-begins e) refl)
      by-test false e = ap (λ (l : List ℕ). follows l rec) (renewed-same w b old new r e)

  pub follower-kept : follows rec new ≡ follows rec old
  follower-kept = by-test (spaced w old) refl
    where
      by-test : (t : Bool) → spaced w old ≡ t → follows rec new ≡ follows rec old
      by-test true e = follows-none new b (new-begins e) proper ∙ sym (follows-none old 32 (old-begins e) refl)
      by-test false e = ap (follows rec) (renewed-same w b old new r e)
