-- The organisation of a view of an accepted point file: where it needs a follower, that is a record between header and
-- trailer.
-- Assumes nothing.
use Prim.Native.Nat.{ℕ, suc, ◌+◌, ◌-◌, ◌≤◌, ◌<◌}
use mathlib.Core.Path.{◌≡◌, refl, sym, ap, ◌∙◌}
use mathlib.Core.Bool.{Bool, true, false, cond, not, ◌&&◌, true≢false}
use mathlib.Core.List.{List, [], ◌∷◌}
use mathlib.Core.Logic.{◌⊎◌, inl, inr, ⊎_elim}
use native.Mathlib.Omega.{arith}
use native.Mathlib.Nat.{eq-or-lt_of_le}
use borrow.Author.Tests.{eqb-true, eqb-false, ne_eqb}
use lib.Dec.{eqb}
use lib.ListN.{length, get_or}
use lib.Seq.{get_or-take}
use Rattle.field.specs.Test.{elem, every, only}
use Rattle.field.specs.Digits.{digit, digits_fault, value}
use Rattle.field.specs.Text.{part, text_in}
use Rattle.field.proofs.Tests.{and_left, and_right, range-low, range-high}
use Rattle.file_record.specs.Parts.{record_at}
use Rattle.file_compare.specs.Order.{order, same}
use Rattle.file_ends.specs.Ends.{identifier, trailer_ok}
use Rattle.file_compare.proofs.Order.{order-equal}
use Rattle.file_fault.specs.Point.{point_rest, point_fault}
use Rattle.file.specs.Check.{records}
use Rattle.file.specs.Formats.{needed, follows, placed, point_format}
use Rattle.file.specs.Accepted.{Accepted}
use Rattle.source.specs.Address.{named}
use Rattle.changes_source.specs.Addresses.{organisation_of}
use Rattle.file_record.proofs.Records.{part_length, record-length}
use Rattle.file_fault.proofs.Passing.{Passes, digits-pass, point-passes}
use Rattle.pack.specs.Sound.{OrganisationSound}
use Rattle.pack_sound.proofs.Texts.{filled-text, not-blank}
use Rattle.pack_sound.proofs.Fields.{small-user, named-sound}

-- the first byte of a front is the record's
front-first : (rec : List ℕ) (w : ℕ) → 0 < w → get_or (part rec 0 w) 0 0 ≡ get_or rec 0 0
front-first rec w h = get_or-take (w - 0) rec 0 0 (omega arith)

-- an identifier's first byte
identifier-first : (proper : ℕ) (s : List ℕ) → 0 < length s → not (eqb (identifier proper s) 0) ≡ true
    → (get_or s 0 0 ≡ proper) ⊎ (get_or s 0 0 ≡ 32)
unfolding identifier
identifier-first proper [] h e = absurd (omega arith)
identifier-first proper (x ∷ xs) h e = by_tests (only proper (x ∷ xs)) (only 32 (x ∷ xs)) refl refl e
  where
    first-only : (b : ℕ) → only b (x ∷ xs) ≡ true → x ≡ b
    first-only b q = eqb-true x b (and_left (eqb x b) (only b xs) q)

    by_tests : (t u : Bool) → only proper (x ∷ xs) ≡ t → only 32 (x ∷ xs) ≡ u
        → not (eqb (cond t 1 (cond u 2 0)) 0) ≡ true
        → (x ≡ proper) ⊎ (x ≡ 32)
    by_tests true u p q e = inl (first-only proper p)
    by_tests false true p q e = inr (first-only 32 q)
    by_tests false false p q e = absurd (true≢false (sym e))

-- a field of digits begins with one
digit-first : (s : List ℕ) → 0 < length s → digits_fault s ≡ 0 → (48 ≤ get_or s 0 0) × (get_or s 0 0 ≤ 57)
digit-first s h e = by-list s h (digits-pass s e)
  where
    by-list : (s : List ℕ) → 0 < length s → every digit s ≡ true → (48 ≤ get_or s 0 0) × (get_or s 0 0 ≤ 57)
    by-list [] h e = absurd (omega arith)
    by-list (x ∷ xs) h e =
        let first = and_left (digit x) (every digit xs) e in
        (range-low 48 57 x first, range-high 48 57 x first)

-- a record that follows another has the type that the other needs, and its front
module _ (owner rec : List ℕ) (e : follows owner rec ≡ true) where
  later : eqb (get_or rec 41 0) (needed owner) && same (part rec 0 41) (part owner 0 41) ≡ true
  unfolding follows
  later = and_right (not (eqb (needed owner) 0)) _ e

  pub follower-type : get_or rec 41 0 ≡ needed owner
  follower-type = eqb-true (get_or rec 41 0) (needed owner) (and_left _ (same (part rec 0 41) (part owner 0 41)) later)

  follower-front : part rec 0 41 ≡ part owner 0 41
  follower-front =
      order-equal (part rec 0 41) (part owner 0 41)
      (eqb-true (order (part rec 0 41) (part owner 0 41)) 0 (and_right (eqb (get_or rec 41 0) (needed owner)) _ later))

-- a view that needs a follower has it
view-followed : (before rec next : List ℕ) → get_or rec 41 0 ≡ 49 → placed before rec next ≡ true → (needed rec ≡ 0 → ⊥)
    → follows rec next ≡ true
unfolding placed
view-followed before rec next view e n = simp (view, ne_eqb (needed rec) 0 n) at e

module _ (points : List ℕ) (p : Accepted point_format points) (i : ℕ) (low : 1 ≤ i) (high : i < records point_format points - 1) where
  abbrev rec : List ℕ
  rec = record_at 168 points i

  abbrev next : List ℕ
  next = record_at 168 points (i + 1)

  begins-digit : (48 ≤ get_or rec 0 0) × (get_or rec 0 0 ≤ 57)
  begins-digit =
      let long : length rec ≡ 168 = record-length 168 points i (omega arith) in
      let size = part_length rec 0 8 (omega arith) (omega arith) in
      rw (front-first rec 8 (omega arith)) at
      (digit-first (part rec 0 8) (omega arith) (point-passes rec (p.each i low high).well_formed).0.0)

  -- no trailer has the front of a record: it does not begin with a digit
  not-trailer : i + 1 ≡ records point_format points - 1 → part next 0 41 ≡ part rec 0 41 → ⊥
  unfolding trailer_ok
  not-trailer e same-front =
      let long : length next ≡ 168 = record-length 168 points (i + 1) (omega arith) in
      let size = part_length next 0 14 (omega arith) (omega arith) in
      let ended = and_left (not (eqb (identifier 255 (part next 0 14)) 0)) _ (rw (← e) at p.ended) in
      let start = front-first next 14 (omega arith) in
      let same_start : get_or next 0 0 ≡ get_or rec 0 0 =
      sym (front-first next 41 (omega arith))
      ∙ (ap (λ (s : List ℕ). get_or s 0 0) same-front ∙ front-first rec 41 (omega arith)) in
      ⊎_elim (λ (h : get_or (part next 0 14) 0 0 ≡ 255). omega (arith, begins-digit.1))
      (λ (h : get_or (part next 0 14) 0 0 ≡ 32). omega (arith, begins-digit.0))
      (identifier-first 255 (part next 0 14) (omega arith) ended)

  -- the follower that a view needs, a record without fault
  pub follower-there : get_or rec 41 0 ≡ 49 → (needed rec ≡ 0 → ⊥)
      → (get_or next 41 0 ≡ needed rec) × (point_fault next ≡ 0)
  follower-there view n =
      let last = records point_format points - 1 in
      let there = view-followed (record_at 168 points (i - 1)) rec next view (p.each i low high).in-place n in
      let inside : i + 1 ≤ last = omega arith in (
        follower-type rec next there,
        ⊎_elim (λ (h : i + 1 ≡ last). absurd (not-trailer h (follower-front rec next there)))
            (λ (h : i + 1 < last). (p.each (i + 1) (omega arith) h).well_formed) (eq-or-lt_of_le inside),
      )

-- what a view needs, by its postcode type and organisation key
view-needs : (rec : List ℕ) → get_or rec 41 0 ≡ 49
    → needed rec ≡ cond (eqb (get_or rec 23 0) 76) 51 (cond (eqb (value (part rec 32 40)) 0) 0 50)
unfolding needed
view-needs rec view = simp view

-- "S with an organisation key above zero needs a type 2 next; L needs a type 3 next .. S with key zero has none"
module _ (rec next : List ℕ) (view : get_or rec 41 0 ≡ 49) (either : elem (get_or rec 23 0) (83 ∷ 76 ∷ []) ≡ true) where
  abbrev type : ℕ
  type = get_or rec 23 0

  abbrev key : ℕ
  key = value (part rec 32 40)

  abbrev Named : Type 0
  Named = OrganisationSound type key (named (text_in next 42 102) (text_in next 102 162))

  large-sound : type ≡ 76 → Passes 42 (point_rest 51) next → Named
  large-sound e p = named-sound type key next 42 p.0 p.1.0 (λ (h : type ≡ 83). absurd (omega arith))

  small-sound : (key ≡ 0 → ⊥) → Passes 42 (point_rest 50) next → Named
  small-sound n p =
      named-sound type key next 42 (filled-text next 42 102 p.0) p.1.0
      (λ (h : type ≡ 83). (omega arith, not-blank next 42 102 p.0))

  pub organisation-sound : ((needed rec ≡ 0 → ⊥) → (get_or next 41 0 ≡ needed rec) × (point_fault next ≡ 0))
      → OrganisationSound type key (organisation_of rec next)
  organisation-sound follower = by_tests (eqb type 76) (eqb key 0) refl refl (view-needs rec view)
    where
      passes : (b : ℕ) → needed rec ≡ suc b → Passes 42 (point_rest (suc b)) next
      passes b e =
          let f = follower (λ (z : needed rec ≡ 0). omega arith) in
          rw (f.0 ∙ e) at (point-passes next f.1).1

      by_tests : (t u : Bool) → eqb type 76 ≡ t → eqb key 0 ≡ u → needed rec ≡ cond t 51 (cond u 0 50)
          → OrganisationSound type key (organisation_of rec next)
      by_tests true u p q e = rw e (large-sound (eqb-true type 76 p) (passes 50 e))
      by_tests false true p q e = rw e (small-user type either p, eqb-true key 0 q)
      by_tests false false p q e = rw e (small-sound (eqb-false key 0 q) (passes 49 e))
