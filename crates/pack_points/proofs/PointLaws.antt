-- Laws of the points of a pack.
-- Assumes nothing.
use Prim.Native.Nat.{ℕ, zero, suc, ◌+◌, ◌-◌, ◌*◌, ◌<◌}
use mathlib.Core.Path.{◌≡◌, refl}
use mathlib.Core.Bool.{Bool, true, false, ◌&&◌}
use mathlib.Core.List.{List}
use native.Mathlib.Omega.{arith}
use native.Mathlib.Numerals.{add-one}
use native.Mathlib.Nat.{mul-add, mul-one}
use lib.ListN.{length, drop, get_or}
use lib.Seq.{drop-cons}
use Rattle.pack.specs.Names.{point_width}
use Rattle.pack.specs.Opening.{edition, row_count, points_start, point_count, row_area, offset_kinds, rest_of, offset_good, offset_of_point, offsets_good, parts_good, points_good, all_points_good}
use Rattle.pack.proofs.Widths.{one_of}
use Rattle.pack_read.specs.declared.layout.Layout.{Layout}
use Rattle.pack_read.specs.Laid.{LaidIn, Trailed}
use Rattle.pack_points.specs.Ready.{Sized, PointIn, rest_good, each_point, all_points, offsets_fine, fields_fine}

-- one offset more
module _ (pack : List ℕ) (at n : ℕ) (kinds : List ℕ) where
  abbrev this : Bool
  this = offset_good (row_area pack) (row_count pack) (get_or kinds n 0) (offset_of_point pack at n)

  pub offsets-step : n < length kinds → this ≡ true
      → offsets_good pack at n (drop n kinds) ≡ offsets_good pack at (n + 1) (drop (n + 1) kinds)
  offsets-step h e = simp (add-one, drop-cons kinds n 0 h, e)

-- the trailer and the points that are counted are there
module _ (pack : List ℕ) (sized : Sized pack) where
  pub trailed : (l : Layout) → LaidIn pack l → Trailed pack l
  trailed l laid = record { laid = laid; room = omega (arith, sized) }

  pub point-in : (i at : ℕ) → i < point_count pack → at ≡ points_start pack + point_width (edition pack) * i → PointIn pack at
  point-in i at h is = omega (arith, sized, is, one_of (point_width (edition pack)) i (point_count pack) h)

-- one point more
module _ (good : ℕ → Bool) (width start count i : ℕ) (h : i < count) where
  left : count - i ≡ suc (count - (i + 1))
  left = omega arith

  next : start + width * i + width ≡ start + width * (i + 1)
  next = omega (arith, mul-add width i 1, mul-one width)

  pub each_step : good (start + width * i) ≡ true
      → each_point good width (count - i) (start + width * i) ≡ each_point good width (count - (i + 1)) (start + width * (i + 1))
  each_step e = rw left (simp (e, next))

  pub each-stop : good (start + width * i) ≡ false → each_point good width (count - i) (start + width * i) ≡ false
  each-stop e = rw left (simp e)

-- points are good where their offsets and all else of them are
module _ (pack : List ℕ) where
  parts-split : (at rest : ℕ) → parts_good pack at rest ≡ offsets_good pack rest 0 offset_kinds && rest_good pack at rest
  unfolding parts_good rest_good
  parts-split at rest = refl

  points-split : (n at : ℕ)
      → points_good pack n at
      ≡ each_point (offsets_fine pack) (point_width (edition pack)) n at && each_point (fields_fine pack) (point_width (edition pack)) n at
  points-split zero at = refl
  points-split (suc n) at =
      let here = parts-split at (rest_of pack at) in
      let others = points-split n (at + point_width (edition pack)) in
      grind arith

  pub all_split : all_points_good pack ≡ all_points pack (offsets_fine pack) && all_points pack (fields_fine pack)
  unfolding all_points_good
  all_split = points-split (point_count pack) (points_start pack)
