-- Laws of a follower, whose front is its owner's.
-- Assumes nothing.
use Prim.Native.Nat.{ℕ, ◌≤◌}
use mathlib.Core.Path.{◌≡◌, refl, sym, ap, ◌∙◌}
use mathlib.Core.Bool.{Bool, true, false, false≢true, ◌||◌}
use mathlib.Core.List.{List, [], ◌∷◌}
use native.Mathlib.Nat.{zero-add}
use lib.Dec.{eqb, lit≤}
use lib.ListN.{get_or}
use Rattle.field.specs.Test.{elem}
use Rattle.field.specs.Text.{part}
use Rattle.file_record.proofs.Records.{part-part}
use Rattle.file_fault.specs.Fields.{fault_in, one_of}
use Rattle.file_fault.specs.Point.{point_head}
use Rattle.file_fault.proofs.Laws.{one_byte}
use Rattle.file_fault.proofs.Passing.{point-passes}
use Rattle.changes_points.specs.Owned.{Owned}

-- a type that is one of two is one of three
one_of_three : (b : ℕ) → elem b (50 ∷ 51 ∷ []) ≡ true → elem b (49 ∷ 50 ∷ 51 ∷ []) ≡ true
one_of_three b e = by-test (eqb b 49) e
  where
    by-test : (t : Bool) → elem b (50 ∷ 51 ∷ []) ≡ true → t || elem b (50 ∷ 51 ∷ []) ≡ true
    by-test true e = refl
    by-test false e = e

pub not-a-view : (b : ℕ) → elem b (50 ∷ 51 ∷ []) ≡ true → b ≡ 49 → ⊥
not-a-view b e h = false≢true (rw h at e)

module _ (owner rec : List ℕ) (o : Owned owner rec) where
  own-part : (from to : ℕ) → to ≤ 41 → part owner from to ≡ part rec from to
  own-part from to h =
      rw (zero-add from, zero-add to)
      at (sym (part-part owner 0 41 from to h) ∙ (ap (λ s. part s from to) (sym o.front) ∙ part-part rec 0 41 from to h))

  own-type : one_of (49 ∷ 50 ∷ 51 ∷ []) (part rec 41 42) ≡ 0
  own-type = one_byte (49 ∷ 50 ∷ 51 ∷ []) rec 41 ∙ rw (one_of_three (get_or rec 41 0) o.type) refl

  -- its head has no fault, since its owner's has none
  pub own-head : fault_in 0 point_head rec ≡ 0
  own-head =
      let p = (point-passes owner o.good).0 in
      rw (
        rw (own-part 0 8 (lit≤ tt)) at p.0,
        rw (own-part 8 14 (lit≤ tt)) at p.1.0,
        rw (own-part 14 18 (lit≤ tt)) at p.1.1.0,
        rw (own-part 18 21 (lit≤ tt)) at p.1.1.1.0,
        rw (own-part 21 23 (lit≤ tt)) at p.1.1.1.1.0,
        rw (own-part 23 24 (lit≤ tt)) at p.1.1.1.1.1.0,
        rw (own-part 24 32 (lit≤ tt)) at p.1.1.1.1.1.1.0,
        rw (own-part 32 40 (lit≤ tt)) at p.1.1.1.1.1.1.1.0,
        rw (own-part 40 41 (lit≤ tt)) at p.1.1.1.1.1.1.1.1.0,
        own-type,
      )
      refl
