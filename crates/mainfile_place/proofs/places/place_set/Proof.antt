-- `mainfile_place::places::place_set` meets its contract. Assumes nothing.
use Prim.Native.Nat.{◌+◌, ◌≤◌}
use mathlib.Core.Path.{ap₂}
use native.Mathlib.Omega.{arith}
use Rattle.mainfile.specs.Set.{Set}
use Rattle.mainfile_source.specs.Rows.{row_files}
use Rattle.mainfile_mark.proofs.Packed.{accepted-ended}
use Rattle.mainfile_place.proofs.Small.{kind-few}
use Rattle.mainfile_place.proofs.OfKind.{blocks_from}
use Rattle.mainfile_place.proofs.Standing.{count-is, bytes-is}
use Rattle.mainfile_place.proofs.places.place_set.Statement.{statement}
use Rattle.mainfile_place.proofs.places.place_set.Tie as tie

module _ (c : tie.Start) where
  abbrev files : Set
  files =
      row_files c.args.localities.now c.args.thoroughfares.now c.args.descriptors.now c.args.buildings.now
      c.args.sub_buildings.now

-- the start, from behind each call
abbrev from₁ : tie.After-place_kind-first → tie.Start
from₁ c = c.before.before.before.before.before.before.before.before.before.before.before.before.before.before.before.before.before

abbrev first : tie.After-place_kind-second → tie.After-place_kind-first
first c = c.before.before.before.before

abbrev second : tie.After-place_kind-third → tie.After-place_kind-second
second c = c.before.before.before.before.before

abbrev third : tie.After-place_kind-fourth → tie.After-place_kind-third
third c = c.before.before.before.before.before

abbrev fourth : tie.After-place_kind-fifth → tie.After-place_kind-fourth
fourth c = c.before.before.before.before.before

abbrev from₂ : tie.After-place_kind-second → tie.Start
from₂ c = from₁ (first c)

abbrev from₃ : tie.After-place_kind-third → tie.Start
from₃ c = from₂ (second c)

abbrev from₄ : tie.After-place_kind-fourth → tie.Start
from₄ c = from₃ (third c)

abbrev from₅ : tie.After-place_kind-fifth → tie.Start
from₅ c = from₄ (fourth c)

-- the rows and bytes of each file are few, and so are those of all files before it
few₁ : (c : tie.After-place_kind-first) → (c.place_kind-first.result.rows ≤ 1_000_000) × (c.place_kind-first.result.bytes ≤ 104_000_000)
few₁ c = c.place_kind-first.ensures.1.1.1

few₂ : (c : tie.After-place_kind-second)
    → (c.place_kind-second.result.rows ≤ 1_000_000) × (c.place_kind-second.result.bytes ≤ 104_000_000)
few₂ c = c.place_kind-second.ensures.1.1.1

few₃ : (c : tie.After-place_kind-third)
    → (c.place_kind-third.result.rows ≤ 1_000_000) × (c.place_kind-third.result.bytes ≤ 104_000_000)
few₃ c = c.place_kind-third.ensures.1.1.1

few₄ : (c : tie.After-place_kind-fourth)
    → (c.place_kind-fourth.result.rows ≤ 1_000_000) × (c.place_kind-fourth.result.bytes ≤ 104_000_000)
few₄ c = c.place_kind-fourth.ensures.1.1.1

few₅ : (c : tie.After-place_kind-fifth)
    → (c.place_kind-fifth.result.rows ≤ 1_000_000) × (c.place_kind-fifth.result.bytes ≤ 104_000_000)
few₅ c = c.place_kind-fifth.ensures.1.1.1

place-kind-requires : tie.Need-place_kind-first-requires
place-kind-requires c κs =
    let s = c.before.before.before.before.before.before.before.before.before.before.before.before.before.before.before.before in
    ((s.requires.1.of_localities, (kind-few (files s) s.requires.0 1).1), omega arith)

place-kind-requires-2 : tie.Need-place_kind-second-requires
place-kind-requires-2 c κs =
    let w = c in
    let s = from₁ w.before.before.before in
    ((s.requires.1.of_thoroughfares, (kind-few (files s) s.requires.0 2).1), omega (arith, (few₁ w.before.before.before).1))

place-kind-requires-3 : tie.Need-place_kind-third-requires
place-kind-requires-3 c κs =
    let w = c in
    let s = from₂ w.before.before.before.before in
    ((s.requires.1.of_descriptors, (kind-few (files s) s.requires.0 3).1), omega (arith, (few₁ (first w.before.before.before.before)).1, (few₂ w.before.before.before.before).1))

place-kind-requires-4 : tie.Need-place_kind-fourth-requires
place-kind-requires-4 c κs =
    let w = c in
    let s = from₃ w.before.before.before.before in (
      (s.requires.1.of_buildings, (kind-few (files s) s.requires.0 4).1),
      omega (arith, (few₁ (first (second w.before.before.before.before))).1, (few₂ (second w.before.before.before.before)).1, (few₃ w.before.before.before.before).1),
    )

place-kind-requires-5 : tie.Need-place_kind-fifth-requires
place-kind-requires-5 c κs =
    let w = c in
    let v = third w.before.before.before.before in
    let s = from₄ w.before.before.before.before in (
      (s.requires.1.of_sub_buildings, (kind-few (files s) s.requires.0 5).1),
      omega (arith, (few₁ (first (second v))).1, (few₂ (second v)).1, (few₃ v).1, (few₄ w.before.before.before.before).1),
    )

add-two : tie.Need-overflow_add-two
add-two c = let w = c in omega (arith, (few₁ (first w.before.before.before)).1, (few₂ w.before.before.before).1)

add-three : tie.Need-overflow_add-three
add-three c =
    let w = c.before.before.before in
    omega (arith, (few₁ (first (second w))).1, (few₂ (second w)).1, (few₃ w).1)

add-four : tie.Need-overflow_add-four
add-four c =
    let w = c.before.before.before in
    let v = third w in
    omega (arith, (few₁ (first (second v))).1, (few₂ (second v)).1, (few₃ v).1, (few₄ w).1)

-- once all five are placed
module _ (c : tie.After-place_kind-fifth) where
  abbrev t₃ : tie.After-place_kind-third
  t₃ = third (fourth c)

  abbrev t₂ : tie.After-place_kind-second
  t₂ = second t₃

  abbrev t₁ : tie.After-place_kind-first
  t₁ = first t₂

  few-rows : (t₁.place_kind-first.result.rows ≤ 1_000_000)
      × ((t₂.place_kind-second.result.rows ≤ 1_000_000)
      × ((t₃.place_kind-third.result.rows ≤ 1_000_000)
      × (((fourth c).place_kind-fourth.result.rows ≤ 1_000_000) × (c.place_kind-fifth.result.rows ≤ 1_000_000))))
  few-rows = ((few₁ t₁).0, ((few₂ t₂).0, ((few₃ t₃).0, ((few₄ (fourth c)).0, (few₅ c).0))))

add-t35 : tie.Need-overflow_add-result
add-t35 c = omega (arith, few-rows c.before.before.before.before)

add-t36 : tie.Need-overflow_add-result-2
add-t36 c = omega (arith, few-rows c.before.before.before.before.before)

add-t37 : tie.Need-overflow_add-result-3
add-t37 c = omega (arith, few-rows c.before.before.before.before.before.before)

add-t38 : tie.Need-overflow_add-result-4
add-t38 c = omega (arith, few-rows c.before.before.before.before.before.before.before)

add-t39 : tie.Need-overflow_add-result-5
add-t39 c =
    let w = c.before.before.before.before.before.before.before.before in
    omega (arith, (few₁ (t₁ w)).1, (few₂ (t₂ w)).1, (few₃ (t₃ w)).1, (few₄ (fourth w)).1, (few₅ w).1)

returns : tie.Need-returns
returns c =
    let w = c.before.before.before.before.before.before.before.before in
    let v = fourth w in
    let s = from₅ w in
    let a = s.args in
    let e = accepted-ended (files s) s.requires.0 in
    let p₁ = (t₁ w).place_kind-first in
    let p₂ = (t₂ w).place_kind-second in
    let p₃ = (t₃ w).place_kind-third in
    let p₄ = v.place_kind-fourth in
    let p₅ = w.place_kind-fifth in
    let l = a.l_bits.now in
    let t = a.t_bits.now in
    let d = a.d_bits.now in
    let b = a.b_bits.now in
    let u = a.s_bits.now in
    let two = ap₂ ◌+◌ p₁.ensures.1.0 p₂.ensures.1.0 in
    let three = ap₂ ◌+◌ two p₃.ensures.1.0 in
    let four = ap₂ ◌+◌ three p₄.ensures.1.0 in (
      omega (
        arith,
        count-is (files s) l t d b u e,
        p₁.ensures.0,
        p₂.ensures.0,
        p₃.ensures.0,
        p₄.ensures.0,
        p₅.ensures.0,
      ),
      (
        omega (arith, bytes-is (files s) l t d b u e, four, p₅.ensures.1.0),
        record {
          room =
              record {
                of_localities = omega (arith, s.requires.1.of_localities, p₁.auto.blocks);
                of_thoroughfares = omega (arith, s.requires.1.of_thoroughfares, p₂.auto.blocks);
                of_descriptors = omega (arith, s.requires.1.of_descriptors, p₃.auto.blocks);
                of_buildings = omega (arith, s.requires.1.of_buildings, p₄.auto.blocks);
                of_sub_buildings = omega (arith, s.requires.1.of_sub_buildings, p₅.auto.blocks);
              };
          of_localities = p₁.ensures.1.1.0;
          of_thoroughfares = blocks_from p₁.ensures.1.0 p₂.ensures.1.1.0;
          of_descriptors = blocks_from two p₃.ensures.1.1.0;
          of_buildings = blocks_from three p₄.ensures.1.1.0;
          of_sub_buildings = blocks_from four p₅.ensures.1.1.0;
        },
      ),
    )

same_length : tie.Need-shape_of-l_blocks
same_length c = (t₁ c.before.before.before.before.before.before.before.before).place_kind-first.auto.blocks

same-length-2 : tie.Need-shape_of-t_blocks
same-length-2 c = (t₂ c.before.before.before.before.before.before.before.before).place_kind-second.auto.blocks

same-length-3 : tie.Need-shape_of-d_blocks
same-length-3 c = (t₃ c.before.before.before.before.before.before.before.before).place_kind-third.auto.blocks

same-length-4 : tie.Need-shape_of-b_blocks
same-length-4 c = (fourth c.before.before.before.before.before.before.before.before).place_kind-fourth.auto.blocks

same-length-5 : tie.Need-shape_of-s_blocks
same-length-5 c = c.place_kind-fifth.auto.blocks

pub place_set_spec : {M : Type 1} → statement M
place_set_spec =
    tie.close
    (tie.spec place-kind-requires place-kind-requires-2 add-two place-kind-requires-3 add-three place-kind-requires-4 add-four
    place-kind-requires-5 add-t35 add-t36 add-t37 add-t38 add-t39 same_length same-length-2 same-length-3 same-length-4
    same-length-5 returns)
