-- The views of a code as they are packed: from one to the next, and where their texts lie.
-- Assumes nothing.
use Prim.Native.Nat.{ℕ, suc, ◌+◌, ◌-◌, ◌≤◌, ◌<◌}
use mathlib.Core.Path.{◌≡◌, refl, ap, ◌∙◌}
use mathlib.Core.Bool.{true, false, cond}
use mathlib.Core.List.{List, [], ◌∷◌}
use native.Mathlib.Omega.{arith}
use native.Mathlib.Numerals.{add-one}
use lib.ListN.{length}
use Rattle.file_record.specs.Parts.{record_at}
use Rattle.changes_views.specs.Views.{wanted, wanted_in, places_from}
use Rattle.changes_views.specs.Views as views
use Rattle.changes_views.proofs.Laws.{places-end}
use Rattle.source.specs.Delivery.{Within}
use Rattle.changes_source.specs.Delivery.{delivery_at}
use Rattle.changes_meaning.proofs.Says.{within-at}
use Rattle.build.specs.Plan.{Packed}
use Rattle.changes_build.specs.Views.{packed_at, packed_all, packed_in}

-- those from a place on
abbrev pub packed_from : (points code : List ℕ) → ℕ → List Packed
packed_from points code at = packed_all points (places_from code points at)

module _ (points code : List ℕ) where
  pub packed_start : packed_in points code ≡ packed_from points code 1
  unfolding wanted_in
  packed_start = refl

  step : (i : ℕ) → i < views.last_of points
      → places_from code points i
      ≡ cond (wanted code (record_at 168 points i)) (i ∷ places_from code points (i + 1)) (places_from code points (i + 1))
  step i h = rw (let k : views.last_of points - i ≡ suc (views.last_of points - suc i) = omega arith in k) (simp (add-one i))

  pub packed_wanted : (i : ℕ) → i < views.last_of points → wanted code (record_at 168 points i) ≡ true
      → packed_from points code i ≡ packed_at points i ∷ packed_from points code (i + 1)
  packed_wanted i h e =
      let on : places_from code points i ≡ i ∷ places_from code points (i + 1) = step i h ∙ rw e in
      ap (packed_all points) on

  pub packed_other : (i : ℕ) → i < views.last_of points → wanted code (record_at 168 points i) ≡ false
      → packed_from points code i ≡ packed_from points code (i + 1)
  packed_other i h e =
      let on : places_from code points i ≡ places_from code points (i + 1) = step i h ∙ rw e in
      ap (packed_all points) on

  pub packed-end : (i : ℕ) → views.last_of points ≤ i → packed_from points code i ≡ []
  packed-end i h = ap (packed_all points) (places-end code points i h)

pub packed-length : (points places : List ℕ) → length (packed_all points places) ≡ length places
packed-length points [] = refl
packed-length points (place ∷ places) = ap suc (packed-length points places)

-- a record behind which the trailer stands
pub view-within : (points : List ℕ) (i : ℕ) → i < views.last_of points → Within points (delivery_at points i)
view-within points i h = within-at points i (omega (arith, h))
