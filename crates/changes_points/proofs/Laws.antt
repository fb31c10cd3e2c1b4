-- Laws of records whose fields are tested at once.
-- Assumes nothing.
use Prim.Native.Nat.{ℕ, zero, suc}
use mathlib.Core.Path.{◌≡◌, refl, ◌∙◌}
use mathlib.Core.Bool.{Bool, true, false, cond}
use mathlib.Core.List.{List, [], ◌∷◌}
use native.Mathlib.Omega.{arith}
use borrow.Author.Tests.{ne_eqb}
use lib.Dec.{eqb, lit≤}
use lib.ListN.{get_or, drop}
use Rattle.field.specs.Digits.{digits_fault}
use Rattle.field.specs.Text.{text_fault, filled_fault, part}
use Rattle.field_outward.specs.Outward.{outward_fault}
use Rattle.field_outward.specs.Inward.{inward_fault, suffix_fault}
use Rattle.file_fault.specs.Fields.{field, place, first, fault_in, one_of}
use Rattle.file_fault.specs.Point.{point_head, view_fields, point_rest, point_fault}
use Rattle.file_fault.proofs.Laws.{digits-join, view-digits}

first-left : (a b : ℕ) → first a b ≡ 0 → a ≡ 0
first-left zero b e = refl
first-left (suc a) b e = e

first-right : (a b : ℕ) → first a b ≡ 0 → b ≡ 0
first-right zero b e = e
first-right (suc a) b e = absurd (omega arith)

place_none : (start fault : ℕ) → place start fault ≡ 0 → fault ≡ 0
place_none start zero e = refl
place_none start (suc fault) e = absurd (omega arith)

module _ (rec : List ℕ) where
  -- a record without a fault has a good outward code
  pub good-outward : point_fault rec ≡ 0 → outward_fault (part rec 14 18) ≡ 0
  unfolding point_fault
  good-outward e =
      let date = place 0 (digits_fault (part rec 0 8)) in
      let time = place 8 (digits_fault (part rec 8 14)) in
      let code = place 14 (outward_fault (part rec 14 18)) in
      let rest = fault_in 18 (drop 3 point_head) rec in
      place_none 14 (outward_fault (part rec 14 18))
      (first-left code rest
      (first-right time (first code rest)
      (first-right date (first time (first code rest))
      (first-left (first date (first time (first code rest))) (fault_in 42 (point_rest (get_or rec 41 0)) rec) e))))

  -- the head's numeric fields are two runs of digits
  pub head-fine : outward_fault (part rec 14 18) ≡ 0
      → inward_fault (part rec 18 21) ≡ 0
      → suffix_fault (part rec 21 23) ≡ 0
      → place 23 (one_of (83 ∷ 76 ∷ []) (part rec 23 24)) ≡ 0
      → place 40 (one_of (66 ∷ 67 ∷ 68 ∷ 73 ∷ []) (part rec 40 41)) ≡ 0
      → place 41 (one_of (49 ∷ 50 ∷ 51 ∷ []) (part rec 41 42)) ≡ 0
      → digits_fault (part rec 0 14) ≡ 0
      → digits_fault (part rec 24 40) ≡ 0
      → fault_in 0 point_head rec ≡ 0
  head-fine outward inward suffix user letter kind date keys =
      rw (digits-join rec 24 32 40 (lit≤ tt) (lit≤ tt), digits-join rec 0 8 14 (lit≤ tt) (lit≤ tt), date, keys, outward, inward, suffix, user, letter, kind) refl

  pub view-fine : place 106 (one_of (89 ∷ 32 ∷ []) (part rec 106 107)) ≡ 0
      → text_fault (part rec 107 113) ≡ 0
      → place 113 (one_of (89 ∷ 32 ∷ []) (part rec 113 114)) ≡ 0
      → digits_fault (part rec 42 106) ≡ 0
      → digits_fault (part rec 114 116) ≡ 0
      → fault_in 42 view_fields rec ≡ 0
  view-fine concatenation box indicator keys reason =
      view-digits rec _ ∙ rw (keys, concatenation, box, indicator, reason) refl

  -- each type's record
  pub view-record : get_or rec 41 0 ≡ 49 → fault_in 0 point_head rec ≡ 0 → fault_in 42 view_fields rec ≡ 0 → point_fault rec ≡ 0
  unfolding point_fault
  view-record kind head rest = rw (head, kind) rest

  pub other-record : (get_or rec 41 0 ≡ 49 → ⊥) → fault_in 0 point_head rec ≡ 0
      → cond (eqb (get_or rec 41 0) 50) (filled_fault (part rec 42 102)) (text_fault (part rec 42 102)) ≡ 0
      → text_fault (part rec 102 162) ≡ 0
      → point_fault rec ≡ 0
  unfolding point_fault
  other-record kind head name department =
      simp (ne_eqb (get_or rec 41 0) 49 kind, head) (by-type (eqb (get_or rec 41 0) 50) (eqb (get_or rec 41 0) 51) name)
    where
      by-type : (t u : Bool) → cond t (filled_fault (part rec 42 102)) (text_fault (part rec 42 102)) ≡ 0
          → fault_in 42
          (cond t (field 60 filled_fault ∷ field 60 text_fault ∷ [])
          (cond u (field 60 text_fault ∷ field 60 text_fault ∷ []) []))
          rec
          ≡ 0
      by-type true u name = rw (name, department) refl
      by-type false true name = rw (name, department) refl
      by-type false false name = refl
