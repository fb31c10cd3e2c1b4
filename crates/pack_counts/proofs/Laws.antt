-- Laws of counts: one byte more, and what an accepted pack's trailer says of them.
-- Assumes nothing.
use Prim.Native.Nat.{ℕ, suc, ◌+◌, ◌-◌, ◌*◌, ◌≤◌, ◌<◌}
use mathlib.Core.Path.{◌≡◌, sym, ap, ◌∙◌}
use mathlib.Core.Bool.{true, cond, not, ◌||◌}
use mathlib.Core.List.{List}
use native.Mathlib.Omega.{arith}
use native.Mathlib.Nat.{mul-add}
use lib.Dec.{eqb}
use lib.ListN.{length, get_or}
use Rattle.std.proofs.lemmas.Grind.{common_steps}
use Rattle.pack.specs.Names.{has_counts, inward_at, point_width}
use Rattle.pack.specs.Sectors.{in_sector, sector_counts}
use Rattle.pack.specs.Opening.{edition, points_start, point_count, point_digits, digits_from, count_said, counts_said, all_counts_good}
use Rattle.pack.proofs.Sectors.{how-many-few, digits_long, counts-long, counts-at, count-said}
use Rattle.pack_points.specs.Ready.{Sized}
use Rattle.pack_counts.specs.Counted.{one_more}

-- the count of its own digit has one more, and no other
one-more-at : (counts : List ℕ) (b d : ℕ) → length counts ≡ 10 → d < 10
    → get_or (one_more counts b) d 0 ≡ get_or counts d 0 + cond (eqb b (48 + d)) 1 0
one-more-at counts b d long h = grind (arith, common_steps)

-- ---- the loop over points

module _ (points : List ℕ) (start width n : ℕ) where
  -- no count is higher than there are points
  pub counted-below : (left : ℕ) (c d at : ℕ) → n < 9_223_372_036_854_775_808
      → c + in_sector d (digits_from points width left at) ≡ in_sector d (digits_from points width n start)
      → c < 9_223_372_036_854_775_808
  counted-below left c d at few each =
      omega (arith, how-many-few (48 + d) (digits_from points width n start), digits_long points width n start)

  module _ (counts : List ℕ) (i d : ℕ) (long : length counts ≡ 10) (h : d < 10)
      (each : get_or counts d 0 + in_sector d (digits_from points width (n - i) (start + width * i))
      ≡ in_sector d (digits_from points width n start)) where
    -- one point more
    pub counted_next : i < n
        → get_or (one_more counts (get_or points (start + width * i + inward_at) 0)) d 0
        + in_sector d (digits_from points width (n - (i + 1)) (start + width * (i + 1)))
        ≡ in_sector d (digits_from points width n start)
    counted_next more =
        let size : n - i ≡ suc (n - (i + 1)) = omega arith in
        let place : start + width * i + width ≡ start + width * (i + 1) = omega (arith, mul-add width i 1) in
        let here = rw (size, place) at each in
        let one = one-more-at counts (get_or points (start + width * i + inward_at) 0) d long h in
        grind arith

    -- all are counted
    pub counted-all : n ≤ i → get_or counts d 0 ≡ get_or (sector_counts (digits_from points width n start)) d 0
    counted-all over =
        let none : n - i ≡ 0 = omega arith in
        let here = rw none at each in
        omega (arith, counts-at (digits_from points width n start) d h)

-- ---- step 4

-- all points that are counted are there
pub points-inside : (pack : List ℕ) {start width n : ℕ} → Sized pack → start ≡ points_start pack
    → width ≡ point_width (edition pack)
    → n ≡ point_count pack
    → start + width * n ≤ length pack
points-inside pack sized s w n = rw (s, w, n) (omega (arith, sized))

module _ (pack : List ℕ) where
  pub its_counts : has_counts (edition pack) ≡ true → counts_said pack 0 (sector_counts (point_digits pack)) ≡ all_counts_good pack
  unfolding all_counts_good
  its_counts e = ap (λ t. not t || counts_said pack 0 (sector_counts (point_digits pack))) (sym e)

  -- so that a count that is read is the one that is counted
  pub read-is-counted : all_counts_good pack ≡ true → has_counts (edition pack) ≡ true → (d : ℕ) → d < 10
      → count_said pack d ≡ in_sector d (point_digits pack)
  read-is-counted good some d h =
      let firsts = point_digits pack in
      ap (count_said pack) (let z : d ≡ 0 + d = omega arith in z)
      ∙ (count-said pack 0 d (sector_counts firsts) (its_counts some ∙ good) (omega (arith, counts-long firsts))
      ∙ counts-at firsts d h)
