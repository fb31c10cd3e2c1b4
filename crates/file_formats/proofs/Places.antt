-- Laws of records that stand as they must, each behind one that does.
-- Assumes nothing.
use Prim.Native.Nat.{ℕ, ◌+◌, ◌-◌, ◌/◌, ◌≤◌, ◌<◌}
use mathlib.Core.Path.{◌≡◌, refl, sym, ◌∙◌}
use mathlib.Core.Bool.{Bool, true, false, cond, not, false≢true, ◌&&◌, ◌||◌}
use mathlib.Core.List.{List, [], ◌∷◌}
use native.Mathlib.Omega.{arith}
use borrow.Author.Tests.{eqb-true, ne_eqb}
use lib.Dec.{eqb, lit≤}
use lib.ListN.{length, get_or}
use lib.Seq.{drop-cons}
use Rattle.field.specs.Test.{elem}
use Rattle.field.specs.Digits.{value}
use Rattle.field.specs.Text.{part}
use Rattle.field.proofs.Tests.{and_left, and_right}
use Rattle.field.proofs.Parts.{part_join}
use Rattle.file_record.specs.Parts.{record_at}
use Rattle.file_record.specs.Names.Point
use Rattle.file_record.proofs.Records.{part_length, record-length}
use Rattle.file_compare.specs.Order.{order, same, above}
use Rattle.file_compare.proofs.Order.{order-equal, first_above, above-yes}
use Rattle.file_compare.proofs.Words.{order-behind}
use Rattle.file_fault.specs.Point.{point_fault}
use Rattle.file_fault.proofs.Passing.{digits-pass, point-passes}
use Rattle.changes_points.specs.Owned.{Owned}
use Rattle.file.specs.Check.{at}
use Rattle.file.specs.Formats.{needed, follows, placed, placed_at, point_format}
use Rattle.file.specs.Viewed.{Viewed}

-- the front of a record has all its bytes
pub front_length : (w n : ℕ) (file : List ℕ) (i : ℕ) → i < length file / w → n ≤ w → length (part (record_at w file i) 0 n) ≡ n
front_length w n file i has less =
    part_length (record_at w file i) 0 n (omega arith) (omega (arith, record-length w file i has)) ∙ omega arith

-- a record that was not refused for its place is the first, or above the one before
pub in_order : (first over : Bool) → not first && not over ≡ false → first || over ≡ true
in_order true over e = refl
in_order false true e = refl
in_order false false e = sym e

pub risen : (first over : Bool) → over ≡ true → first || over ≡ true
risen true over e = refl
risen false over e = e

-- a view without a fault
pub viewed : (rec : List ℕ) → length rec ≡ Point.width → get_or rec Point.type 0 ≡ 49 → point_fault rec ≡ 0 → Viewed rec
viewed rec long view good =
    record {
      long = omega arith;
      view = view;
      digits = digits-pass (part rec 32 40) (point-passes rec good).0.1.1.1.1.1.1.1.0;
    }

-- a record that needs another is a view
needs-view : (rec : List ℕ) → (needed rec ≡ 0 → ⊥) → eqb (get_or rec Point.type 0) 49 ≡ true
unfolding needed
needs-view rec n = by-test (eqb (get_or rec Point.type 0) 49) _ n
  where
    by-test : (t : Bool) (need : ℕ) → (cond t need 0 ≡ 0 → ⊥) → t ≡ true
    by-test true need n = refl
    by-test false need n = absurd (n refl)

-- and the other's type is one of two
needed-type : (rec : List ℕ) → (needed rec ≡ 0 → ⊥) → elem (needed rec) (50 ∷ 51 ∷ []) ≡ true
unfolding needed
needed-type rec n =
    by_tests (eqb (get_or rec Point.type 0) 49) (eqb (get_or rec Point.postcode_type 0) 76)
    (eqb (value (part rec Point.organisation_key Point.letter)) 0) n
  where
    by_tests : (t u v : Bool) → (◌≡◌ {A = ℕ} (cond t (cond u 51 (cond v 0 50)) 0) 0 → ⊥)
        → elem (cond t (cond u 51 (cond v 0 50)) 0) (50 ∷ 51 ∷ []) ≡ true
    by_tests true true v n = refl
    by_tests true false true n = absurd (n refl)
    by_tests true false false n = refl
    by_tests false u v n = absurd (n refl)

of_two : (b : ℕ) → elem b (50 ∷ 51 ∷ []) ≡ true → 49 < b
of_two b e = by-test (eqb b 50) (eqb b 51) refl refl e
  where
    by-test : (t u : Bool) → eqb b 50 ≡ t → eqb b 51 ≡ u → t || (u || false) ≡ true → 49 < b
    by-test true u p q e = omega (arith, eqb-true b 50 p)
    by-test false true p q e = omega (arith, eqb-true b 51 q)
    by-test false false p q e = absurd (false≢true e)

-- a record behind its owner
module _ (owner rec : List ℕ) (need : needed owner ≡ 0 → ⊥) (follower : follows owner rec ≡ true) where
  matches : eqb (get_or rec Point.type 0) (needed owner) && same (part rec 0 Point.type) (part owner 0 Point.type) ≡ true
  unfolding follows
  matches = and_right (not (eqb (needed owner) 0)) _ follower

  front : part rec 0 Point.type ≡ part owner 0 Point.type
  front =
      order-equal (part rec 0 Point.type) (part owner 0 Point.type)
      (eqb-true (order (part rec 0 Point.type) (part owner 0 Point.type)) 0
      (and_right (eqb (get_or rec Point.type 0) (needed owner)) _ matches))

  type : get_or rec Point.type 0 ≡ needed owner
  type =
      eqb-true (get_or rec Point.type 0) (needed owner)
      (and_left _ (same (part rec 0 Point.type) (part owner 0 Point.type)) matches)

  pub owned : point_fault owner ≡ 0 → Owned owner rec
  owned good = record { front = front; type = rw type (needed-type owner need); good = good }

  -- it is above its owner by its type alone
  pub above-owner : length owner ≡ Point.width → length rec ≡ Point.width
      → above (part rec 0 Point.rest) (part owner 0 Point.rest) ≡ true
  above-owner long longer =
      above-yes (part rec 0 42) (part owner 0 42)
      (rw (
        part_join rec 0 41 42 (lit≤ tt) (lit≤ tt),
        part_join owner 0 41 42 (lit≤ tt) (lit≤ tt),
        front,
        drop-cons rec 41 0 (omega arith),
        drop-cons owner 41 0 (omega arith),
      )
      (order-behind (part owner 0 41) (get_or rec 41 0 ∷ []) (get_or owner 41 0 ∷ [])
      ∙ first_above (get_or rec 41 0) (get_or owner 41 0) [] [] (omega (arith, owner-type, type, of_two (needed owner) (needed-type owner need)))))
    where
      owner-type : get_or owner 41 0 ≡ 49
      owner-type = eqb-true (get_or owner 41 0) 49 (needs-view owner need)

-- what the place of an owner says of the record behind it
pub owner-placed : (file : List ℕ) (i : ℕ) → 1 ≤ i → placed_at file (i - 1) ≡ true → (needed (at point_format file (i - 1)) ≡ 0 → ⊥)
    → follows (at point_format file (i - 1)) (at point_format file i) ≡ true
unfolding placed
owner-placed file i low e need =
    let owner = at point_format file (i - 1) in
    let here : i - 1 + 1 ≡ i = omega arith in
    rw (needs-view owner need, ne_eqb (needed owner) 0 need, here) at e

-- a view and a follower in their places
pub view-placed : (before rec next : List ℕ) → get_or rec Point.type 0 ≡ 49 → eqb (needed rec) 0 || follows rec next ≡ true
    → placed before rec next ≡ true
unfolding placed
view-placed before rec next view e = rw view e

pub follower-placed : (before rec next : List ℕ) → (get_or rec Point.type 0 ≡ 49 → ⊥) → follows before rec ≡ true
    → placed before rec next ≡ true
unfolding placed
follower-placed before rec next other e = rw (ne_eqb (get_or rec Point.type 0) 49 other) e
