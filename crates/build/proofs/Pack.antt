-- The whole pack, part by part.
-- Assumes nothing.
use Prim.Native.Nat.{ℕ, ◌+◌, ◌*◌, ◌≤◌}
use mathlib.Core.Path.{◌≡◌, sym, ap, ◌∙◌}
use mathlib.Core.List.{List, ◌++◌}
use native.Mathlib.Omega.{arith}
use native.Mathlib.Nat.{zero-add}
use lib.ListN.{length}
use Rattle.shelf.specs.Stock.{Stock}
use Rattle.label.specs.Put.{Put}
use Rattle.label.proofs.Going.{Going, going_start, going-as, going-left, going_step}
use Rattle.pack.specs.Layout.{trailer_bytes}
use Rattle.pack.specs.Names.{newest, point_width}
use Rattle.build.specs.Plan.{Packed, organisation_rows}
use Rattle.build.specs.Bytes.{used_rows, points_in, counts_at_in, counts_in, pack_in}
use Rattle.build.specs.Ready.{Ready}
use Rattle.build.proofs.Counts.{put-counts}

module _ (st : Stock) (own others starts : List ℕ) (ds : List Packed) (code : List ℕ) (rows count : ℕ) where
  -- the trailer where the organisations' rows stand from i on and the points from j on
  abbrev pub trailer_from : ℕ → ℕ → List ℕ
  trailer_from i j = trailer_bytes newest rows j count code (counts_in (points_in st own others starts i ds) count)

  -- the points, and the trailer behind them
  abbrev pub behind_rows : ℕ → ℕ → List ℕ
  behind_rows i j = points_in st own others starts i ds ++ trailer_from i j

  module _ {out : List ℕ} (ready : Ready st own others starts ds code rows count out) where
    parts : (i j : ℕ) → length (used_rows st starts) ≡ i → i + length (organisation_rows others ds) ≡ j
        → pack_in st own others starts ds code ≡ used_rows st starts ++ (organisation_rows others ds ++ behind_rows i j)
    unfolding pack_in
    parts i j a b = rw (ready.of_rows, ready.of_points, sym b, sym a)

    pub pack-room : 0 + length (pack_in st own others starts ds code) ≤ length out
    pack-room = omega (arith, ready.of_room)

    pub pack-start : (i j : ℕ) → length (used_rows st starts) ≡ i → i + length (organisation_rows others ds) ≡ j
        → Going (pack_in st own others starts ds code)
        (used_rows st starts ++ (organisation_rows others ds ++ behind_rows i j)) out 0 0 out
    pack-start i j a b = going-as (parts i j a b) (going_start (pack_in st own others starts ds code) out 0)

    module _ {x : List ℕ} {i : ℕ} (v : Put (used_rows st starts) out 0 i x) where
      pub after-rows : (j : ℕ) → i + length (organisation_rows others ds) ≡ j
          → Going (pack_in st own others starts ds code) (organisation_rows others ds ++ behind_rows i j) out 0 i x
      after-rows j b =
          going_step (organisation_rows others ds ++ behind_rows i j)
          (pack-start i j (sym (v.size ∙ zero-add (length (used_rows st starts)))) b) v pack-room

      module _ {y : List ℕ} {j : ℕ} (w : Put (organisation_rows others ds) x i j y) where
        pub after-organisations : Going (pack_in st own others starts ds code) (behind_rows i j) out 0 j y
        after-organisations = going_step (behind_rows i j) (after-rows j (sym w.size)) w pack-room

        -- the trailer counts the points where they stand
        pub after-points : {z : List ℕ} {k : ℕ} → Put (points_in st own others starts i ds) y j k z
            → point_width newest * count ≤ length (points_in st own others starts i ds)
            → Going (pack_in st own others starts ds code) (trailer_bytes newest rows j count code (counts_at_in z count j)) out 0 k z
        after-points u whole =
            let fits : j ≤ length y = omega (arith, going-left after-organisations pack-room) in
            going-as (ap (trailer_bytes newest rows j count code) (sym (put-counts count u fits whole)))
            (going_step (trailer_from i j) after-organisations u pack-room)
